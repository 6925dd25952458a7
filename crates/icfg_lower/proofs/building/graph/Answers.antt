use Rattle.std.proofs.Common.{◌≡◌, ◌∙◌, map, sym, ap, subst}
use Rattle.typed_tree.specs.TypedTree.{TypedProgram}
use Rattle.typed_tree.specs.TypingRules.TypedParts.{typed_program}
use Rattle.nwa_base.specs.Automata.{IsAutomaton}
use Rattle.letter_acts.specs.Acts.{plain_acts, marks_of, plain_frames}
use Rattle.letter_acts.specs.Invariant.{Graph, IsGraph, alphabet_of}
use Rattle.letter_acts.specs.Parts as parts
use Rattle.letter_acts.specs.Widths.{ActsFit}
use Rattle.letter_acts.specs.LetterTable.Letters.{Lettered}
use Rattle.lowered_graph.specs.Lowered.{lowered}
use Rattle.icfg_lower.specs.Ties.Built.{plain_lettered}
use Rattle.icfg_lower.proofs.AutomatonParts.{automaton_is, graph_is, acts_apart, marks_apart, if_ok_so}
use Rattle.icfg_lower.proofs.building.graph.Goals as goal

pub automaton-requires : goal.automaton-requires
automaton-requires c =
    let t : TypedProgram = typed_program c.args.layout in
    subst IsAutomaton
    (sym (automaton_is t c.places.result c.deref.result.now (plain_lettered c.args.lettered) c.places.ensures (c.deref.ensures.value ∙ c.requires.sites) c.requires.lettered))
    c.requires.automaton

pub joined-requires : goal.joined-requires
joined-requires c =
    let t : TypedProgram = typed_program c.args.layout in
    let lists = c.in_ok-lists.lists in
    let g : Graph = parts.graph c.in_ok-nwa.nwa c.args.lettered.acts.items c.into_frames.result.items lists.names.items lists.owners.items lists.entries.items lists.exits.items c.args.sites.items in
    let is : g ≡ lowered t =
    graph_is t c.in_ok-nwa.nwa (plain_acts c.args.lettered.acts.items) (marks_of c.args.lettered.acts.items) (plain_frames c.into_frames.result.items) lists.names.items lists.owners.items lists.entries.items lists.exits.items
    c.args.sites.items
    (c.in_ok-nwa.ensures ∙
    automaton_is t c.places.result c.deref.result.now (plain_lettered c.args.lettered) c.places.ensures (c.deref.ensures.value ∙ c.requires.sites) c.requires.lettered)
    (acts_apart c.args.lettered.acts.items ∙ ap (λ (d : Lettered). map (λ a. a.act) d.acts) c.requires.lettered)
    (marks_apart c.args.lettered.acts.items ∙ ap (λ (d : Lettered). map (λ a. a.coarse) d.acts) c.requires.lettered) c.into_frames.ensures c.in_ok-lists.ensures.names c.in_ok-lists.ensures.owners c.in_ok-lists.ensures.entries
    c.in_ok-lists.ensures.exits c.requires.sites in
    subst (λ (x : Graph). ActsFit (alphabet_of x) → IsGraph x) (sym is) c.requires.kept

pub returns : goal.returns
returns c =
    let t : TypedProgram = typed_program c.args.layout in
    let lists = c.in_ok-lists.lists in
    let g : Graph = parts.graph c.in_ok-nwa.nwa c.args.lettered.acts.items c.into_frames.result.items lists.names.items lists.owners.items lists.entries.items lists.exits.items c.args.sites.items in
    let is : g ≡ lowered t =
    graph_is t c.in_ok-nwa.nwa (plain_acts c.args.lettered.acts.items) (marks_of c.args.lettered.acts.items) (plain_frames c.into_frames.result.items) lists.names.items lists.owners.items lists.entries.items lists.exits.items
    c.args.sites.items
    (c.in_ok-nwa.ensures ∙
    automaton_is t c.places.result c.deref.result.now (plain_lettered c.args.lettered) c.places.ensures (c.deref.ensures.value ∙ c.requires.sites) c.requires.lettered)
    (acts_apart c.args.lettered.acts.items ∙ ap (λ (d : Lettered). map (λ a. a.act) d.acts) c.requires.lettered)
    (marks_apart c.args.lettered.acts.items ∙ ap (λ (d : Lettered). map (λ a. a.coarse) d.acts) c.requires.lettered) c.into_frames.ensures c.in_ok-lists.ensures.names c.in_ok-lists.ensures.owners c.in_ok-lists.ensures.entries
    c.in_ok-lists.ensures.exits c.requires.sites in
    if_ok_so (λ (i : Graph). i ≡ g) (λ (i : Graph). i ≡ lowered t) c.joined.result (λ (i : Graph) h. h ∙ is) c.joined.ensures.value
