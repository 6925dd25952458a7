use Rattle.std.proofs.Common.{◌≡◌, ℕ, List, [], ◌∷◌, ◌++◌, get_or, sym, ◌∙◌, ap}
use Rattle.nwa_base.specs.declared.letters.Kind.TheVariants.{Inside}
use Rattle.nwa_base.specs.declared.letters.Letter.{Letter}
use Rattle.nwa_base.specs.Automata.{Automaton}
use Rattle.icfg_lower.proofs.AutomatonParts.{on_made, one_added, all_added}
use Rattle.icfg_lower.proofs.building.add_backs.Goals as goal

pub loop-from-preserved : goal.loop-from-preserved
loop-from-preserved c =
    let d : ℕ × ℕ × Letter × ℕ = (0, 0, record { id = 0; kind = Inside; call = 0 }, 0) in
    let es : List (ℕ × ℕ × Letter × ℕ) = c.loop-from.nwa.backs ++ get_or c.args.edges.now c.loop-from.from-index d ∷ [] in
    let n : ◌≡◌ {A = Automaton} c.add_back.new.self (record c.loop-from.nwa { backs = es }) = on_made c.add_back.result c.in_ok-added.field-0 _ c.in_ok-added.ensures c.add_back.ensures.ok in
    let e : c.add_back.new.self.backs ≡ es = ap (λ (m : Automaton). m.backs) n in
    record {
      added = one_added c.args.edges.now c.loop-from.from-index d c.loop-from.nwa.backs c.add_back.new.self.backs (c.args.nwa.now.backs ++ c.args.edges.now) c.loop-from-test.true e c.loop-from.invariant.added;
      others = n ∙ (λ j. record (c.loop-from.invariant.others j) { backs = sym e j });
    }

pub returns : goal.returns
returns c =
    c.loop-from.invariant.others
    ∙ (λ j. record c.args.nwa.now { backs = all_added c.args.edges.now c.loop-from.from-index c.loop-from.nwa.backs (c.args.nwa.now.backs ++ c.args.edges.now) c.loop-from-test.false c.loop-from.invariant.added j })
