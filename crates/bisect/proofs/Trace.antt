-- What one pass has asked: each part that it found is needed after all that stood before it, and those that are sure were shown so.
use Rattle.std.proofs.Common.{◌≡◌, ℕ, suc, ◌<◌, ◌≤◌, Bool, true, false, ltb, List, [], ◌∷◌, ◌++◌, length, get_or, take, sym, refl, ap, ◌∙◌, subst, inl, inr, arith, get_or-take, take-take}
use Rattle.std.proofs.lemmas.Bool.{lt-ltb, le-ltb}
use Rattle.subset.specs.Parts.{some_of, without, has}
use Rattle.subset.proofs.Lists.{Row, row_from, those_in, those_out, has_cons}
use Rattle.subset.proofs.Order.{row_has, none_has}
use Rattle.bisect.specs.Judge.{Judge, fails}
use Rattle.bisect.specs.Search.{keep, Pass, fresh, question, answered}
use Rattle.bisect.specs.Pass.{before, beyond, asked_of}
use Rattle.bisect.proofs.Keep.{above, above_keep, keep_keep, keep_one, above_cons, above_none, take_keep, above_row, keep_above}
use Rattle.bisect.proofs.Right.{Finds, answers, failed, stood, Right, right_found, right_failed, right_stood}
use Rattle.bisect.proofs.Nest.{asked_new, asked_more, before_take}

beyond_all : (x b n : ℕ) (ks : List ℕ) → x < b → Row b n ks → beyond x ks ≡ ks
beyond_all x b n [] h w = refl
beyond_all x b n (k ∷ ks) h w =
    rw (those_in (λ z. ltb x z) k ks (lt-ltb x k (omega arith))) (ap {B = List ℕ} (λ l. k ∷ l) (beyond_all x (suc k) n ks (omega arith) w.2))

beyond_head : (x n : ℕ) (ks : List ℕ) → Row (suc x) n ks → beyond x (x ∷ ks) ≡ ks
beyond_head x n ks w = those_out (λ z. ltb x z) x ks (le-ltb x x (omega arith)) ∙ beyond_all x (suc x) n ks (omega arith) w

beyond_tail : (y x : ℕ) (ks : List ℕ) → x ≤ y → beyond y (x ∷ ks) ≡ beyond y ks
beyond_tail y x ks h = those_out (λ z. ltb y z) x ks (le-ltb y x h)

-- asked of, and did not fail
abbrev pub Stood : Judge → List (List ℕ) → List ℕ → Type 0
Stood f qs q = (asked_of qs q ≡ true) × (fails f q ≡ false)

pub stood_more : (f : Judge) (p : List ℕ) (qs : List (List ℕ)) (q : List ℕ) → Stood f qs q → Stood f (p ∷ qs) q
stood_more f p qs q t = (asked_more q p qs t.0, t.1)

-- of a pass that began with A
pub record Traced (f : Judge) (A : List ℕ) (qs : List (List ℕ)) (p : Pass) : Type 0 where
  pub short : p.at.row ≤ length A
  pub fore : take p.at.row p.held ≡ take p.at.row A
  pub mark : (l : ℕ) → p.at.lo ≡ suc l → Stood f qs (question l p)
  pub trusted : (x : ℕ) → has (take p.at.sure (above p.at.row p.held)) x ≡ true → Stood f qs (without x p.held)
  pub shown : (y : ℕ) → has (above p.at.row p.held) y ≡ true → Stood f qs (before y A ++ beyond y (above p.at.row p.held))

module _ (n : ℕ) (f : Judge) (A : List ℕ) (sm : some_of n A ≡ true) where
  pub traced_fresh : (qs : List (List ℕ)) → Traced f A qs (fresh A)
  traced_fresh qs = record {
    short = omega arith;
    fore = refl;
    mark = λ l q. absurd (omega arith);
    trusted = λ x g. absurd (none_has x g);
    shown = λ y g. absurd (none_has y (rw (above_none A) at g));
  }

  abbrev pub Both : List (List ℕ) → Pass → Type 0
  Both qs p = Right n f p × Traced f A qs p

  traced_found : (qs : List (List ℕ)) → Finds (Both qs)
  traced_found qs p r e i (w, t) =
      let ks = p.held in
      let h : r < length ks = omega (arith, w.sized.high) in
      let hA : r < length A = omega (arith, t.short) in
      let x = get_or ks r 0 in
      let N = above (suc r) ks in
      let up : Row (suc x) n N = above_row n r ks h w.some in
      let fore₁ : take (suc r) ks ≡ take (suc r) A = subst (λ (k : ℕ). take k ks ≡ take k A) i t.fore in
      let fore₀ : take r ks ≡ take r A = sym (take-take r (suc r) ks (omega arith)) ∙ ap (take r) fore₁ ∙ take-take r (suc r) A (omega arith) in
      let at-A : get_or A r 0 ≡ x = sym (get_or-take (suc r) A r 0 (omega arith)) ∙ ap (λ l. get_or l r 0) (sym fore₁) ∙ get_or-take (suc r) ks r 0 (omega arith) in
      let bf : before x A ≡ take r ks = subst (λ (z : ℕ). before z A ≡ take r A) at-A (before_take 0 n A r hA (row_from n A sm)) ∙ sym fore₀ in
      let ab : above r ks ≡ x ∷ N = above_cons r ks h in
      let mk : Stood f qs (keep r (suc r) ks) = subst (λ (k : ℕ). Stood f qs (keep r k ks)) i (t.mark r e) in
      let one : Stood f qs (without x ks) = subst (λ (l : List ℕ). Stood f qs l) (keep_one n r ks h w.some) mk in
      let new : Stood f qs (before x A ++ beyond x (x ∷ N)) =
      rw (bf, beyond_head x n N up) (subst (λ (l : List ℕ). Stood f qs l) (keep_above r (suc r) ks) mk) in
      let old : (y : ℕ) → has N y ≡ true → Stood f qs (before y A ++ beyond y (x ∷ N)) =
      λ y g. rw (beyond_tail y x N (omega (arith, row_has (suc x) n N y up g)))
      (subst (λ (k : ℕ). Stood f qs (before y A ++ beyond y (above k ks))) i (t.shown y (subst (λ (k : ℕ). has (above k ks) y ≡ true) (sym i) g))) in (
        right_found n f p r e i w,
        record {
          short = omega arith;
          fore = fore₀;
          mark = λ l q. absurd (omega arith);
          trusted = λ y g. elim (has_cons x (take p.at.sure N) y (rw ab at g)) [
            | inl a ↦ rw a one
            | inr a ↦ t.trusted y (subst (λ (k : ℕ). has (take p.at.sure (above k ks)) y ≡ true) (sym i) a)
          ];
          shown = λ y g. subst (λ (l : List ℕ). Stood f qs (before y A ++ beyond y l)) (sym ab) (elim (has_cons x N y (rw ab at g)) [
            | inl a ↦ subst (λ (z : ℕ). Stood f qs (before z A ++ beyond z (x ∷ N))) (sym a) new
            | inr a ↦ old y a
          ]);
        },
      )

  module _ (qs : List (List ℕ)) (c : ℕ) (p : Pass) (low : p.at.lo ≤ c) (high : c < p.at.row) (w : Right n f p) (t : Traced f A qs p) where
    abbrev Q : List ℕ
    Q = question c p

    traced_failed : fails f Q ≡ true → Both (Q ∷ qs) (failed c p)
    traced_failed e =
        let ks = p.held in
        let r = p.at.row in
        let l = w.sized.high in
        let ab : above c Q ≡ above r ks = above_keep c r ks (omega arith) l in (
          right_failed n f c p low high w e,
          record {
            short = omega (arith, t.short);
            fore = take_keep c r ks (omega arith) l ∙ sym (take-take c r ks (omega arith)) ∙ ap (take c) t.fore ∙ take-take c r A (omega arith);
            mark = λ k q. subst (λ (q₁ : List ℕ). Stood f (Q ∷ qs) q₁) (sym (keep_keep k c r ks (omega arith) (omega arith) l)) (stood_more f Q qs (question k p) (t.mark k q));
            trusted = λ x g. absurd (none_has x g);
            shown = λ y g. subst (λ (q₁ : List ℕ). Stood f (Q ∷ qs) (before y A ++ beyond y q₁)) (sym ab) (stood_more f Q qs _ (t.shown y (rw ab at g)));
          },
        )

    traced_stood : fails f Q ≡ false → Both (Q ∷ qs) (stood c p)
    traced_stood e = (
      right_stood n f c p low high w e,
      record {
        short = t.short;
        fore = t.fore;
        mark = λ l q. let q₁ : c ≡ l = omega arith in subst (λ (k : ℕ). Stood f (Q ∷ qs) (question k p)) q₁ (asked_new Q qs, e);
        trusted = λ x g. stood_more f Q qs _ (t.trusted x g);
        shown = λ y g. stood_more f Q qs _ (t.shown y g);
      },
    )

    pub traced_answered : (b : Bool) → fails f Q ≡ b → Both (Q ∷ qs) (answered c p b)
    traced_answered b e = answers (Both (Q ∷ qs)) (traced_found (Q ∷ qs)) c p low high b (λ q. traced_failed (e ∙ q)) (λ q. traced_stood (e ∙ q))
