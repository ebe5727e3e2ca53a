use Rattle.inspect.proofs.Exactly.{exactly}
use Rattle.inspect.proofs.inspector.inspect.Goals as goal

pub returns-clause-exact : goal.returns-clause-exact
returns-clause-exact g c = rw c.first_broken.ensures.value (exactly c.args.told c.args.parts _ _ _)
