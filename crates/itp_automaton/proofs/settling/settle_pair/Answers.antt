use Rattle.std.proofs.Common.{◌≡◌, ◌∙◌, ◌<◌, ℕ, List, [], ◌∷◌, length, get_or, Option, Some, sym, ap, subst}
use Rattle.letter_acts.specs.Acts.{Alphabet}
use Rattle.letter_acts.specs.Invariant.{alphabet_of}
use Rattle.farkas_check.specs.Nodes.{PlainNode}
use Rattle.triple_rows.specs.declared.triples.Scoped.{Scoped}
use Rattle.triple_rows.specs.declared.triples.Triple.{Triple}
use Rattle.triple_rows.specs.Triples.{Agrees, IsRefuted}
use Rattle.triple_rows.specs.Proofs.{PlainProof}
use Rattle.hoare_check.specs.Decided.{IsProofFor}
use Rattle.hoare_check.specs.Halves.{MayFind}
use Rattle.itp_automaton.specs.declared.sources.Source.{Source}
use Rattle.itp_automaton.specs.Settling.{IsListed, NamesStates, IsGrounded, IsWithin, state_at, triple_from}
use Rattle.itp_automaton.proofs.StateLaws.{got_at}
use Rattle.itp_automaton.proofs.SourceLaws.{state_stands, state_listed}
use Rattle.itp_automaton.proofs.SettlingLaws.{adds_none, adds_found, names_from, pair_known, pair_found, pair_refused}
use Rattle.itp_automaton.proofs.settling.settle_pair.Goals as goal

pub returns-then-is_listed-clause-adds : goal.returns-then-is_listed-clause-adds
returns-then-is_listed-clause-adds c = adds_none (alphabet_of c.args.icfg.now) c.args.states.now c.args.found.now.items

pub returns-then-is_listed-clause-settled : goal.returns-then-is_listed-clause-settled
returns-then-is_listed-clause-settled c =
    let al = alphabet_of c.args.icfg.now in
    let states = c.args.states.now in
    let q = c.args.target.now.state in
    let s = c.index-states-target.result in
    let here : state_at states q ≡ s = state_stands states q s (got_at states q s c.requires.target.state.below c.index-states-target.is) in
    let t : Scoped → Triple = λ x. triple_from states c.args.source c.args.letter x in
    pair_known al states c.args.source c.args.letter (state_at states q) c.args.known.now c.args.found.now.items c.args.found.now.items
    (subst (λ (x : Scoped). IsListed c.args.known.now (t x)) (sym here) (c.is_listed.ensures c.if-is_listed.true))

pub returns-in-None-clause-adds : goal.returns-in-None-clause-adds
returns-in-None-clause-adds c = adds_none (alphabet_of c.args.icfg.now) c.args.states.now c.args.found.now.items

pub returns-in-None-clause-settled : goal.returns-in-None-clause-settled
returns-in-None-clause-settled c =
    let al = alphabet_of c.args.icfg.now in
    let states = c.args.states.now in
    let q = c.args.target.now.state in
    let t = triple_from states c.args.source c.args.letter (state_at states q) in
    let agrees : Agrees al t = c.requires.agrees (state_at states q) c.requires.target.state.scoped in
    let found = c.in_ok-refutation.ensures al t agrees (c.requires.half (state_at states q)) c.requires.target.half in
    pair_refused al states c.args.source c.args.letter (state_at states q) c.args.known.now c.args.found.now.items c.args.found.now.items
    (subst (λ (o : Option (List PlainNode)). MayFind al t o) c.in-None.is found)

-- what is known of the triple that is made, and of the proof that is found of it
module _ (al : Alphabet) (states : List Scoped) (source : Source) (letter q : ℕ) (s : Scoped) (triple : Triple) (nodes : List PlainNode) (below : q < length states) (is : s ≡ get_or states q s)
    (made : triple ≡ triple_from states source letter s) where
  same_triple : triple ≡ triple_from states source letter (state_at states q)
  same_triple = made ∙ ap (λ (x : Scoped). triple_from states source letter x) (sym (state_stands states q s (got_at states q s below is)))

  found_is_refuted : MayFind al (triple_from states source letter (state_at states q)) (Some nodes) → IsRefuted al triple nodes
  found_is_refuted h = subst (λ (x : Triple). IsRefuted al x nodes) (sym same_triple) h.0

  found_is_grounded : (p : PlainProof) → p ≡ record { triple = triple; refutation = nodes } → MayFind al (triple_from states source letter (state_at states q)) (Some nodes) →
      IsWithin (length states) source → IsGrounded al states p
  found_is_grounded p e h w = record {
    proof = subst (IsProofFor al) (sym e) (subst (λ (x : Triple). IsProofFor al (record { triple = x; refutation = nodes })) (sym same_triple) h.1);
    named = subst (NamesStates states) (sym (ap (λ (x : PlainProof). x.triple) e ∙ same_triple)) (names_from states source letter (state_at states q) w (state_listed states q below));
  }

pub new-requires : goal.new-requires
new-requires c =
    let al = alphabet_of c.args.icfg.now in
    let states = c.args.states.now in
    let q = c.args.target.now.state in
    let t = triple_from states c.args.source c.args.letter (state_at states q) in
    let found = subst (λ (o : Option (List PlainNode)). MayFind al t o) c.in-Some.is
    (c.in_ok-refutation.ensures al t (c.requires.agrees (state_at states q) c.requires.target.state.scoped) (c.requires.half (state_at states q)) c.requires.target.half) in (
      al,
      found_is_refuted al states c.args.source c.args.letter q c.index-states-target.result c.in_ok-triple-in-Some.triple c.in-Some.refutation c.requires.target.state.below
          c.index-states-target.is c.in_ok-triple-in-Some.ensures found,
    )

pub returns-in_ok-push-in-Some-clause-adds : goal.returns-in_ok-push-in-Some-clause-adds
returns-in_ok-push-in-Some-clause-adds c =
    let al = alphabet_of c.args.icfg.now in
    let states = c.args.states.now in
    let q = c.args.target.now.state in
    let t = triple_from states c.args.source c.args.letter (state_at states q) in
    let found = subst (λ (o : Option (List PlainNode)). MayFind al t o) c.in-Some.is
    (c.in_ok-refutation.ensures al t (c.requires.agrees (state_at states q) c.requires.target.state.scoped) (c.requires.half (state_at states q)) c.requires.target.half) in
    adds_found al states c.args.found.now.items (c.new.result ∷ []) c.push.new.self.items (
      found_is_grounded al states c.args.source c.args.letter q c.index-states-target.result c.in_ok-triple-in-Some.triple c.in-Some.refutation c.requires.target.state.below
          c.index-states-target.is c.in_ok-triple-in-Some.ensures c.new.result c.new.ensures found c.requires.within,
      tt,
    ) c.in_ok-push-in-Some.ensures.items

pub returns-in_ok-push-in-Some-clause-settled : goal.returns-in_ok-push-in-Some-clause-settled
returns-in_ok-push-in-Some-clause-settled c =
    let states = c.args.states.now in
    let q = c.args.target.now.state in
    pair_found (alphabet_of c.args.icfg.now) states c.args.source c.args.letter (state_at states q) c.args.known.now c.args.found.now.items c.push.new.self.items c.new.result
    (ap (λ (x : PlainProof). x.triple) c.new.ensures ∙ same_triple (alphabet_of c.args.icfg.now) states c.args.source c.args.letter q c.index-states-target.result c.in_ok-triple-in-Some.triple
    c.in-Some.refutation c.requires.target.state.below c.index-states-target.is c.in_ok-triple-in-Some.ensures) c.in_ok-push-in-Some.ensures.items
