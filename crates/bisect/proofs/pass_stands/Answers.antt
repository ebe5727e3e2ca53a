use Rattle.bisect.proofs.Nest.{nested}
use Rattle.bisect.proofs.Passes.{any_pass, one_pass}
use Rattle.bisect.proofs.pass_stands.Goals as goal

pub returns : goal.returns
returns c = record { any = any_pass; counted = one_pass; nested = nested }
