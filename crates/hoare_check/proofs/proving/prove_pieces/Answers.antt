use Rattle.std.proofs.Common.{◌≡◌, ◌∙◌, IfOk, Ok, Err, Result, ap, sym}
use Rattle.letter_acts.specs.Invariant.{alphabet_of}
use Rattle.rayon.proofs.ListFacts.{IfOk-then}
use Rattle.hoare_check.proofs.ProvingLaws.{all_proved}
use Rattle.hoare_check.proofs.proving.prove_pieces.Goals as goal

-- what holds of the value of an `Ok`, where it is one
at_ok : {T E : Type 0} (r : Result T E) (P : T → Type 0) (v : T) (Q : Type 0) → IfOk r P → r ≡ Ok v → ((x : T) → x ≡ v → P x → Q) → Q
at_ok (Ok w) P v Q h e f = let same : w ≡ v = cc in f w same h
at_ok (Err x) P v Q h e f = absurd cc

pub returns : goal.returns
returns g c =
    at_ok c.collect.result _ c.in_ok-tried.tried _ c.collect.ensures c.in_ok-tried.was (λ v same h.
    IfOk-then c.gathered.result _ _ c.gathered.ensures (λ proofs e.
    all_proved (alphabet_of c.args.icfg.now) (alphabet_of c.map.result.f.1.now) c.map.result.base.base.vec c.into_par_iter.result.vec c.args.pieces.items
    h.1.0 h.0 v.items proofs.items (ap (λ f. alphabet_of f.1.now) c.map.ensures.f) (ap (λ it. it.base.vec) c.map.ensures.base ∙ ap (λ it. it.vec) c.with_min_len.ensures.base) c.into_par_iter.ensures
    h.1.1 h.1.2 h.2 (e ∙ ap (λ w. w.items) (sym same))))
