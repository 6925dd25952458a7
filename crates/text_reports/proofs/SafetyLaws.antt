-- Why a program is safe whose graph has no feasible error word.
use Rattle.std.proofs.Common.{◌≡◌, ℕ, List, [], refl, sym, subst}
use Rattle.typed_tree.specs.TypedTree.{TypedProgram}
use Rattle.nwa_base.specs.Members.{Member}
use Rattle.nwa_base.proofs.MemberLemmas.{member_map}
use Rattle.letter_acts.specs.declared.sites.Site.{Site}
use Rattle.letter_acts.specs.Invariant.{Graph, site_places}
use Rattle.letter_acts.proofs.MachineLemmas.{goes_accepted}
use Rattle.boogie_run.specs.RunRules.Runs.{IsSafe}
use Rattle.lowered_graph.specs.Lowered.{lowered}
use Rattle.lowered_graph.specs.Laws.{IsFaithful, ErrorWord}
use Rattle.lowered_graph.proofs.ErrorWords.{error_way}
use Rattle.text_reports.specs.Answers.{IsGraphOf, HasNoErrorWord}

-- the final states of a program's graph are those where its assertions fail
finals_are : (t : TypedProgram) (g : Graph) → g ≡ lowered t → g.automaton.finals ≡ site_places g.sites
finals_are t g e = subst (λ (h : Graph). h.automaton.finals ≡ site_places h.sites) (sym e) refl

pub faithful_is_safe : (t : TypedProgram) (g : Graph) → g ≡ lowered t → IsFaithful t g → HasNoErrorWord g → IsSafe t
faithful_is_safe t g value faithful none i fails =
    let e : ErrorWord g i = faithful.follows i fails in
    let last : Member g.automaton.finals e.site.place =
    subst (λ (xs : List ℕ). Member xs e.site.place) (sym (finals_are t g value)) (member_map (λ (s : Site). s.place) g.sites e.site e.is_site) in
    let way = error_way g i e in
    none e.word (goes_accepted g.automaton e.word [] way.0 g.automaton.start e.site.place way.1 last) e.feasible

pub graph_is_safe : (t : TypedProgram) (g : Graph) → IsGraphOf t g → HasNoErrorWord g → IsSafe t
graph_is_safe t g h none = faithful_is_safe t g h.value h.faithful none
