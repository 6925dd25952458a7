use Rattle.std.proofs.Common.{◌≡◌, ℕ, List, [], ◌∷◌, ◌++◌, get_or, sym, ◌∙◌, ap}
use Rattle.nwa_base.specs.declared.letters.Kind.TheVariants.{Inside}
use Rattle.nwa_base.specs.declared.letters.Letter.{Letter}
use Rattle.nwa_base.specs.Automata.{Automaton}
use Rattle.icfg_lower.proofs.AutomatonParts.{on_made, one_added, all_added}
use Rattle.icfg_lower.proofs.building.add_calls.Goals as goal

pub loop-from-preserved : goal.loop-from-preserved
loop-from-preserved c =
    let d : ℕ × Letter × ℕ = (0, record { id = 0; kind = Inside; call = 0 }, 0) in
    let es : List (ℕ × Letter × ℕ) = c.loop-from.nwa.calls ++ get_or c.args.edges.now c.loop-from.from-index d ∷ [] in
    let n : ◌≡◌ {A = Automaton} c.add_call.new.self (record c.loop-from.nwa { calls = es }) = on_made c.add_call.result c.in_ok-added.field-0 _ c.in_ok-added.ensures c.add_call.ensures.ok in
    let e : c.add_call.new.self.calls ≡ es = ap (λ (m : Automaton). m.calls) n in
    record {
      added = one_added c.args.edges.now c.loop-from.from-index d c.loop-from.nwa.calls c.add_call.new.self.calls (c.args.nwa.now.calls ++ c.args.edges.now) c.loop-from-test.true e c.loop-from.invariant.added;
      others = n ∙ (λ j. record (c.loop-from.invariant.others j) { calls = sym e j });
    }

pub returns : goal.returns
returns c =
    c.loop-from.invariant.others
    ∙ (λ j. record c.args.nwa.now { calls = all_added c.args.edges.now c.loop-from.from-index c.loop-from.nwa.calls (c.args.nwa.now.calls ++ c.args.edges.now) c.loop-from-test.false c.loop-from.invariant.added j })
