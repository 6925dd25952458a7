use Rattle.std.proofs.Common.{Bor, map, refl}
use Rattle.itp_automaton.specs.Certified.{Certificate}
use Rattle.proof_build.specs.Sketches.{AreReachable, AreInOrder, AreUsed, AreOnce}
use Rattle.proof_build.proofs.BuildLaws.{parts_are, covering_by, parts_may, all_prove, none_at_all, says, reached_said, order_said, used_said, once_said}
use Rattle.proof_build.proofs.building.over_nodes.Goals as goal

pub spelled-requires : goal.spelled-requires
spelled-requires c =
    parts_may c.args.icfg.now (map (λ (r : Bor Certificate). r.now) c.args.automata.now) c.args.preds.now c.args.preds.now c.in_ok-triples.triples.items c.deref.result.now c.args.unwound.now
    (parts_are c.args.icfg.now (map (λ (r : Bor Certificate). r.now) c.args.automata.now) c.args.preds.now c.args.preds.now c.args.preds.now c.args.union.now c.in_ok-needed.needed
    c.in_ok-triples.triples.items c.args.unwound.now c.requires.certified c.requires.body c.requires.listed c.requires.numbered refl c.requires.union
    c.requires.unwound c.in_ok-needed.ensures refl c.in_ok-triples.ensures.triples c.in_ok-triples.ensures.once)
    refl c.deref.ensures.value

pub returns-clause-proves : goal.returns-clause-proves
returns-clause-proves c =
    all_prove c.args.icfg.now (map (λ (r : Bor Certificate). r.now) c.args.automata.now) c.args.preds.now c.args.preds.now c.in_ok-triples.triples.items c.deref.result.now c.args.unwound.now c.spelled.result
    (parts_are c.args.icfg.now (map (λ (r : Bor Certificate). r.now) c.args.automata.now) c.args.preds.now c.args.preds.now c.args.preds.now c.args.union.now c.in_ok-needed.needed
    c.in_ok-triples.triples.items c.args.unwound.now c.requires.certified c.requires.body c.requires.listed c.requires.numbered refl c.requires.union
    c.requires.unwound c.in_ok-needed.ensures refl c.in_ok-triples.ensures.triples c.in_ok-triples.ensures.once)
    refl c.deref.ensures.value (covering_by c.args.icfg.now c.args.automata.now c.requires.covering) c.spelled.ensures.names

pub returns-clause-none : goal.returns-clause-none
returns-clause-none c =
    none_at_all c.args.icfg.now c.args.automata.now c.args.preds.now c.args.preds.now c.in_ok-triples.triples.items c.deref.result.now c.args.unwound.now c.spelled.result
    (parts_are c.args.icfg.now (map (λ (r : Bor Certificate). r.now) c.args.automata.now) c.args.preds.now c.args.preds.now c.args.preds.now c.args.union.now c.in_ok-needed.needed
    c.in_ok-triples.triples.items c.args.unwound.now c.requires.certified c.requires.body c.requires.listed c.requires.numbered refl c.requires.union
    c.requires.unwound c.in_ok-needed.ensures refl c.in_ok-triples.ensures.triples c.in_ok-triples.ensures.once)
    refl c.deref.ensures.value c.requires.none c.spelled.ensures.spells

pub returns-clause-reachable : goal.returns-clause-reachable
returns-clause-reachable c =
    says c.args.icfg.now c.args.preds.now c.deref.result.now c.args.unwound.now AreReachable c.spelled.result
    (reached_said c.args.icfg.now (map (λ (r : Bor Certificate). r.now) c.args.automata.now) c.args.preds.now c.args.preds.now c.in_ok-triples.triples.items c.deref.result.now c.args.unwound.now
    (parts_are c.args.icfg.now (map (λ (r : Bor Certificate). r.now) c.args.automata.now) c.args.preds.now c.args.preds.now c.args.preds.now c.args.union.now c.in_ok-needed.needed
    c.in_ok-triples.triples.items c.args.unwound.now c.requires.certified c.requires.body c.requires.listed c.requires.numbered refl c.requires.union
    c.requires.unwound c.in_ok-needed.ensures refl c.in_ok-triples.ensures.triples c.in_ok-triples.ensures.once))
    c.spelled.ensures.names

pub returns-clause-ascend : goal.returns-clause-ascend
returns-clause-ascend c =
    says c.args.icfg.now c.args.preds.now c.deref.result.now c.args.unwound.now AreInOrder c.spelled.result
    (order_said c.args.icfg.now (map (λ (r : Bor Certificate). r.now) c.args.automata.now) c.args.preds.now c.args.preds.now c.in_ok-triples.triples.items c.deref.result.now c.args.unwound.now
    (parts_are c.args.icfg.now (map (λ (r : Bor Certificate). r.now) c.args.automata.now) c.args.preds.now c.args.preds.now c.args.preds.now c.args.union.now c.in_ok-needed.needed
    c.in_ok-triples.triples.items c.args.unwound.now c.requires.certified c.requires.body c.requires.listed c.requires.numbered refl c.requires.union
    c.requires.unwound c.in_ok-needed.ensures refl c.in_ok-triples.ensures.triples c.in_ok-triples.ensures.once))
    c.spelled.ensures.names

pub returns-clause-used : goal.returns-clause-used
returns-clause-used c =
    says c.args.icfg.now c.args.preds.now c.deref.result.now c.args.unwound.now AreUsed c.spelled.result
    (used_said c.args.icfg.now (map (λ (r : Bor Certificate). r.now) c.args.automata.now) c.args.preds.now c.args.preds.now c.in_ok-triples.triples.items c.deref.result.now c.args.unwound.now
    (parts_are c.args.icfg.now (map (λ (r : Bor Certificate). r.now) c.args.automata.now) c.args.preds.now c.args.preds.now c.args.preds.now c.args.union.now c.in_ok-needed.needed
    c.in_ok-triples.triples.items c.args.unwound.now c.requires.certified c.requires.body c.requires.listed c.requires.numbered refl c.requires.union
    c.requires.unwound c.in_ok-needed.ensures refl c.in_ok-triples.ensures.triples c.in_ok-triples.ensures.once) c.deref.ensures.value)
    c.spelled.ensures.names

pub returns-clause-once : goal.returns-clause-once
returns-clause-once c =
    says c.args.icfg.now c.args.preds.now c.deref.result.now c.args.unwound.now AreOnce c.spelled.result
    (once_said c.args.icfg.now (map (λ (r : Bor Certificate). r.now) c.args.automata.now) c.args.preds.now c.args.preds.now c.in_ok-triples.triples.items c.deref.result.now c.args.unwound.now
    (parts_are c.args.icfg.now (map (λ (r : Bor Certificate). r.now) c.args.automata.now) c.args.preds.now c.args.preds.now c.args.preds.now c.args.union.now c.in_ok-needed.needed
    c.in_ok-triples.triples.items c.args.unwound.now c.requires.certified c.requires.body c.requires.listed c.requires.numbered refl c.requires.union
    c.requires.unwound c.in_ok-needed.ensures refl c.in_ok-triples.ensures.triples c.in_ok-triples.ensures.once) c.deref.ensures.value)
    c.spelled.ensures.names
