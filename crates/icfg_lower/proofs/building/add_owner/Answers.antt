use Rattle.std.proofs.Common.{◌≡◌, ◌∙◌, ℕ, zero, suc, ◌+◌, List, [], ◌∷◌, ◌++◌, replicate, refl, ap, arith, append_assoc}
use Rattle.icfg_lower.proofs.building.add_owner.Goals as goal

one_more : (n x : ℕ) → replicate n x ++ x ∷ [] ≡ replicate (n + 1) x
one_more zero x = refl
one_more (suc n) x =
    let e : suc (n + 1) ≡ suc n + 1 = omega arith in
    ap (λ (l : List ℕ). x ∷ l) (one_more n x) ∙ ap (λ (k : ℕ). replicate k x) e

pub loop-place-preserved : goal.loop-place-preserved
loop-place-preserved c =
    c.in_ok-push.ensures.items ∙ ap (λ (l : List ℕ). l ++ c.args.proc ∷ []) c.loop-place.invariant
    ∙ append_assoc c.args.owners.now.items (replicate c.loop-place._place c.args.proc) (c.args.proc ∷ [])
    ∙ ap (λ (l : List ℕ). c.args.owners.now.items ++ l) (one_more c.loop-place._place c.args.proc)
