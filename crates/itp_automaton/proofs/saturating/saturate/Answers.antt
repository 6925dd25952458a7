use Rattle.std.proofs.Common.{◌≡◌, ℕ, List, length, Option, IsSome, IfSome, subst}
use Rattle.std.proofs.lemmas.Bool.{false≢true}
use Rattle.letter_acts.specs.Invariant.{alphabet_of}
use Rattle.triple_rows.specs.declared.triples.Scoped.{Scoped}
use Rattle.itp_automaton.specs.Certified.{Certificate, IsCertified}
use Rattle.itp_automaton.specs.Making.{AreStates}
use Rattle.itp_automaton.specs.Settling.{Adds, SettledBelow}
use Rattle.itp_automaton.specs.Ties.Edges.{IsBuilt}
use Rattle.itp_automaton.proofs.MakingLaws.{built_states, frame_count}
use Rattle.itp_automaton.proofs.SaturatedLaws.{all_grounded, grounded_proofs, grounded_named, built_saturated, old_edges}
use Rattle.itp_automaton.proofs.saturating.saturate.Goals as goal

pub assembled-requires-clause-truths : goal.assembled-requires-clause-truths
assembled-requires-clause-truths g c =
    let count = frame_count c.frames.result.now c.args.icfg.now.frames c.frames.ensures.value in
    (subst (λ (n : ℕ). AreStates n c.args.preds.items c.in_ok-states.states) count c.in_ok-states.ensures).truths

pub assembled-requires-clause-proofs : goal.assembled-requires-clause-proofs
assembled-requires-clause-proofs g c =
    let count = frame_count c.frames.result.now c.args.icfg.now.frames c.frames.ensures.value in
    let states = subst (λ (n : ℕ). AreStates n c.args.preds.items c.in_ok-states.states) count c.in_ok-states.ensures in
    let adds = subst (λ (l : List Scoped). Adds (alphabet_of c.args.icfg.now) l c.args.proofs.items c.in_ok-all.all.items) c.as_slice.ensures c.in_ok-all.ensures.adds in
    grounded_proofs (alphabet_of c.args.icfg.now) c.in_ok-states.states c.in_ok-all.all.items
    (adds.grounded (all_grounded c.args.icfg.now c.args.preds.items c.in_ok-states.states c.args.proofs.items states c.requires.proofs c.requires.named))

pub unreachable-requires : goal.unreachable-requires
unreachable-requires g c =
    let count = frame_count c.frames.result.now c.args.icfg.now.frames c.frames.ensures.value in
    let states = subst (λ (n : ℕ). AreStates n c.args.preds.items c.in_ok-states.states) count c.in_ok-states.ensures in
    let adds = subst (λ (l : List Scoped). Adds (alphabet_of c.args.icfg.now) l c.args.proofs.items c.in_ok-all.all.items) c.as_slice.ensures c.in_ok-all.ensures.adds in
    let some = c.in_ok-certified.ensures.found.1 (grounded_named (alphabet_of c.args.icfg.now) c.in_ok-states.states c.in_ok-all.all.items
    (adds.grounded (all_grounded c.args.icfg.now c.args.preds.items c.in_ok-states.states c.args.proofs.items states c.requires.proofs c.requires.named))) in
    false≢true (subst (λ (o : Option Certificate). IsSome o) c.in-None.is some)

pub returns-clause-certified : goal.returns-clause-certified
returns-clause-certified g c =
    subst (λ (o : Option Certificate). IfSome o (IsCertified (alphabet_of c.args.icfg.now))) c.in-Some.is c.in_ok-certified.ensures.certified

pub returns-clause-saturated : goal.returns-clause-saturated
returns-clause-saturated g c =
    let count = frame_count c.frames.result.now c.args.icfg.now.frames c.frames.ensures.value in
    let states = subst (λ (n : ℕ). AreStates n c.args.preds.items c.in_ok-states.states) count c.in_ok-states.ensures in
    let settled = subst (λ (l : List Scoped). SettledBelow (alphabet_of c.args.icfg.now) l c.in_ok-all.all.items (length c.args.icfg.now.acts)) c.as_slice.ensures c.in_ok-all.ensures.settled in
    let built = subst (λ (o : Option Certificate). IfSome o (λ m. IsBuilt c.args.icfg.now c.in_ok-states.states c.in_ok-all.all.items m.automaton)) c.in-Some.is c.in_ok-certified.ensures.built in
    let named = subst (λ (o : Option Certificate). IfSome o (λ m. m.preds ≡ c.in_ok-states.states)) c.in-Some.is c.in_ok-certified.ensures.preds in
    built_saturated c.args.icfg.now c.args.preds.items c.in_ok-states.states c.in_ok-all.all.items c.in-Some.certified states
    built settled named

pub returns-clause-states : goal.returns-clause-states
returns-clause-states g c =
    let count = frame_count c.frames.result.now c.args.icfg.now.frames c.frames.ensures.value in
    let states = subst (λ (n : ℕ). AreStates n c.args.preds.items c.in_ok-states.states) count c.in_ok-states.ensures in
    let built = subst (λ (o : Option Certificate). IfSome o (λ m. IsBuilt c.args.icfg.now c.in_ok-states.states c.in_ok-all.all.items m.automaton)) c.in-Some.is c.in_ok-certified.ensures.built in
    let named = subst (λ (o : Option Certificate). IfSome o (λ m. m.preds ≡ c.in_ok-states.states)) c.in-Some.is c.in_ok-certified.ensures.preds in
    built_states c.args.icfg.now c.args.preds.items c.in_ok-states.states states c.in_ok-all.all.items c.in-Some.certified
    named built

pub returns-clause-edges : goal.returns-clause-edges
returns-clause-edges g c =
    let count = frame_count c.frames.result.now c.args.icfg.now.frames c.frames.ensures.value in
    let states = subst (λ (n : ℕ). AreStates n c.args.preds.items c.in_ok-states.states) count c.in_ok-states.ensures in
    let settled = subst (λ (l : List Scoped). SettledBelow (alphabet_of c.args.icfg.now) l c.in_ok-all.all.items (length c.args.icfg.now.acts)) c.as_slice.ensures c.in_ok-all.ensures.settled in
    let adds = subst (λ (l : List Scoped). Adds (alphabet_of c.args.icfg.now) l c.args.proofs.items c.in_ok-all.all.items) c.as_slice.ensures c.in_ok-all.ensures.adds in
    let built = subst (λ (o : Option Certificate). IfSome o (λ m. IsBuilt c.args.icfg.now c.in_ok-states.states c.in_ok-all.all.items m.automaton)) c.in-Some.is c.in_ok-certified.ensures.built in
    let named = subst (λ (o : Option Certificate). IfSome o (λ m. m.preds ≡ c.in_ok-states.states)) c.in-Some.is c.in_ok-certified.ensures.preds in
    old_edges c.args.icfg.now c.args.preds.items c.in_ok-states.states c.in_ok-all.all.items c.in-Some.certified states
    built settled named c.args.proofs.items adds.kept
