use Rattle.std.proofs.Common.{◌≡◌, ◌∙◌, ℕ, ◌+◌, ◌<◌, List, [], ◌∷◌, ◌++◌, length, take, get_or, refl, sym, map}
use Rattle.std.specs.Prelude.{Result, Ok, OnOk, slice_index}
use Rattle.std.proofs.lemmas.List.{append-nil, take_all}
use Rattle.nwa_base.specs.declared.letters.Letter.{Letter}
use Rattle.nwa_base.specs.declared.letters.Kind.TheVariants.{Inside}
use Rattle.nwa_base.specs.declared.faults.NwaFault.{NwaFault}
use Rattle.nwa_base.specs.Automata.{Automaton}
use Rattle.proof_build.specs.ProofUnwind.Renumbering.{moved_back}
use Rattle.proof_build.proofs.ListLaws.{mapped_behind, on_ok}
use Rattle.proof_build.proofs.proof_unwind.ordering.move_backs.Goals as goal

one_moved : (f : (ℕ × ℕ × Letter × ℕ) → ℕ × ℕ × Letter × ℕ) (u old new : Automaton) (es : List (ℕ × ℕ × Letter × ℕ)) (i : ℕ) (d y : ℕ × ℕ × Letter × ℕ) (r : Result (Unit {0}) NwaFault) →
    old ≡ record u { backs = u.backs ++ map f (take i es) } → i < length es → r ≡ Ok tt → OnOk r (new ≡ record old { backs = old.backs ++ y ∷ [] }) → y ≡ f (get_or es i d) →
    new ≡ record u { backs = u.backs ++ map f (take (i + 1) es) }
one_moved f u old new es i d y r b l k n e =
    on_ok r tt (new ≡ record old { backs = old.backs ++ y ∷ [] }) k n ∙ (λ j. record (b j) { backs = (b j).backs ++ e j ∷ [] }) ∙
    (λ j. record u { backs = mapped_behind f es i d u.backs (u.backs ++ map f (take i es)) ((u.backs ++ map f (take i es)) ++ f (get_or es i d) ∷ []) l refl refl j })

pub loop-exit-init : goal.loop-exit-init
loop-exit-init c = sym (λ j. record c.args.steps.now { backs = append-nil c.args.steps.now.backs j })

pub loop-exit-preserved : goal.loop-exit-preserved
loop-exit-preserved c =
    one_moved (moved_back (slice_index c.args.ranks.now)) c.args.steps.now c.loop-exit.steps c.add_back.new.self c.args.edges.now c.loop-exit.exit-index
    (0, 0, record { id = 0; kind = Inside; call = 0 }, 0) _ c.add_back.result c.loop-exit.invariant c.loop-exit-test.true c.in_ok-added.ensures c.add_back.ensures.ok
    (λ j. (c.rank-exit.ensures j, c.rank.ensures j, (get_or c.args.edges.now c.loop-exit.exit-index (0, 0, record { id = 0; kind = Inside; call = 0 }, 0)).2, c.rank-in-loop-exit.ensures j))

pub returns : goal.returns
returns c =
    c.loop-exit.invariant ∙
    (λ j. record c.args.steps.now { backs = c.args.steps.now.backs ++ map (moved_back (slice_index c.args.ranks.now)) (take_all c.loop-exit.exit-index c.args.edges.now c.loop-exit-test.false j) })
