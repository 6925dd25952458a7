use Rattle.std.proofs.Common.{◌≡◌, ◌∙◌, ℕ, ◌+◌, ◌<◌, List, [], ◌∷◌, ◌++◌, length, take, get_or, refl, sym, map}
use Rattle.std.specs.Prelude.{Result, Ok, OnOk, slice_index}
use Rattle.std.proofs.lemmas.List.{append-nil, take_all}
use Rattle.nwa_base.specs.declared.letters.Letter.{Letter}
use Rattle.nwa_base.specs.declared.letters.Kind.TheVariants.{Inside}
use Rattle.nwa_base.specs.declared.faults.NwaFault.{NwaFault}
use Rattle.nwa_base.specs.Automata.{Automaton}
use Rattle.proof_build.specs.ProofUnwind.Renumbering.{moved}
use Rattle.proof_build.proofs.ListLaws.{mapped_behind, on_ok}
use Rattle.proof_build.proofs.proof_unwind.ordering.move_calls.Goals as goal

one_moved : (f : (ℕ × Letter × ℕ) → ℕ × Letter × ℕ) (u old new : Automaton) (es : List (ℕ × Letter × ℕ)) (i : ℕ) (d y : ℕ × Letter × ℕ) (r : Result (Unit {0}) NwaFault) →
    old ≡ record u { calls = u.calls ++ map f (take i es) } → i < length es → r ≡ Ok tt → OnOk r (new ≡ record old { calls = old.calls ++ y ∷ [] }) → y ≡ f (get_or es i d) →
    new ≡ record u { calls = u.calls ++ map f (take (i + 1) es) }
one_moved f u old new es i d y r b l k n e =
    on_ok r tt (new ≡ record old { calls = old.calls ++ y ∷ [] }) k n ∙ (λ j. record (b j) { calls = (b j).calls ++ e j ∷ [] }) ∙
    (λ j. record u { calls = mapped_behind f es i d u.calls (u.calls ++ map f (take i es)) ((u.calls ++ map f (take i es)) ++ f (get_or es i d) ∷ []) l refl refl j })

pub loop-from-init : goal.loop-from-init
loop-from-init c = sym (λ j. record c.args.steps.now { calls = append-nil c.args.steps.now.calls j })

pub loop-from-preserved : goal.loop-from-preserved
loop-from-preserved c =
    one_moved (moved (slice_index c.args.ranks.now)) c.args.steps.now c.loop-from.steps c.add_call.new.self c.args.edges.now c.loop-from.from-index
    (0, record { id = 0; kind = Inside; call = 0 }, 0) _ c.add_call.result c.loop-from.invariant c.loop-from-test.true c.in_ok-added.ensures c.add_call.ensures.ok
    (λ j. (c.rank.ensures j, (get_or c.args.edges.now c.loop-from.from-index (0, record { id = 0; kind = Inside; call = 0 }, 0)).1, c.rank-in-loop-from.ensures j))

pub returns : goal.returns
returns c =
    c.loop-from.invariant ∙
    (λ j. record c.args.steps.now { calls = c.args.steps.now.calls ++ map (moved (slice_index c.args.ranks.now)) (take_all c.loop-from.from-index c.args.edges.now c.loop-from-test.false j) })
