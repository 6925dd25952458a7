-- Items of one place, from the edges and the fault that is noted.
use Rattle.std.proofs.Common.{◌≡◌, Bool, List, [], ◌∷◌, sym, ap, ◌∙◌, subst}
use Rattle.std.specs.Prelude.{IsSome, slice_get, ℕ}
use Rattle.boogie_tree.specs.declared.span.Span.{Span}
use Rattle.typed_tree.specs.TypedTree.{TypedExpression, TypedProgram}
use Rattle.typed_tree.specs.TypingRules.TypedParts.{TypedParts, typed_program}
use Rattle.letter_acts.specs.declared.sites.Site.{Site}
use Rattle.letter_acts.specs.LetterTable.Letters.{Arc}
use Rattle.lowered_graph.specs.LoweredSteps.ProgramFrames.{frame_at}
use Rattle.lowered_graph.specs.LoweredSteps.Edges.{local_count}
use Rattle.lowered_graph.specs.Arcs.{error_place}
use Rattle.lowered_graph.specs.Items.{Needed, earlier}
use Rattle.lowered_graph.specs.LoweredParts.Lists.{test_arcs, test_needed}
use Rattle.lowered_graph.specs.LoweredParts.Items.{site_of}
use Rattle.lowered_graph.specs.LoweredParts.Parts.{Leads}
use Rattle.lowered_graph.specs.LoweredParts.Making.{asserted, MakesItem}
use Rattle.lowered_graph.proofs.LoweredParts.OneItem.{item_made, asserted_item}
use Rattle.icfg_lower.specs.PlaceEdges.Faults.{fault_of}
use Rattle.icfg_lower.specs.PlaceEdges.WalkedParts.{WalkedParts, walked}

pub item_led : (at : Span) (arcs : List Arc) (needed : List Needed) (w b : Bool) (old mid new : WalkedParts) → Leads arcs needed w b (walked old) (walked mid) →
    new ≡ record mid { fault = earlier mid.fault (fault_of at w b) } → MakesItem at [] arcs needed (walked old) (walked new)
item_led at arcs needed w b old mid new h e = item_made at arcs needed w b (walked old) (walked mid) (walked new) h (ap walked e)

pub assertion_led : (at : Span) (s : Site) (arcs : List Arc) (needed : List Needed) (w b : Bool) (old more mid new : WalkedParts) → more ≡ record old { sites = (asserted (walked old) s).sites } →
    Leads arcs needed w b (walked more) (walked mid) → new ≡ record mid { fault = earlier mid.fault (fault_of at w b) } → MakesItem at (s ∷ []) arcs needed (walked old) (walked new)
assertion_led at s arcs needed w b old more mid new d h e = asserted_item at s arcs needed w b (walked old) (walked more) (walked mid) (walked new) (ap walked d) h (ap walked e)

-- the same program has the same procedures
pub still_there : (t u : TypedProgram) (n : ℕ) → u ≡ t → IsSome (slice_get t.procs n) → IsSome (slice_get u.procs n)
still_there t u n e h = subst (λ (x : TypedProgram). IsSome (slice_get x.procs n)) (sym e) h

-- an assertion whose error place was read from the layout
pub assert_led : (at : Span) (number proc place to wrong : ℕ) (e : TypedExpression) (w b : Bool) (lay : TypedParts) (old more mid new : WalkedParts) →
    more ≡ record old { sites = (asserted (walked old) (site_of (typed_program old.parts) number at)).sites } → lay ≡ more.parts → wrong ≡ error_place (typed_program lay) number →
    Leads (test_arcs (frame_at (typed_program more.parts) proc) (local_count (typed_program more.parts) proc) proc place e to wrong) (test_needed (frame_at (typed_program more.parts) proc) (local_count (typed_program more.parts) proc) e) w b (walked more) (walked mid) →
    new ≡ record mid { fault = earlier mid.fault (fault_of at w b) } →
    MakesItem at (site_of (typed_program old.parts) number at ∷ []) (test_arcs (frame_at (typed_program old.parts) proc) (local_count (typed_program old.parts) proc) proc place e to (error_place (typed_program old.parts) number))
    (test_needed (frame_at (typed_program old.parts) proc) (local_count (typed_program old.parts) proc) e) (walked old) (walked new)
assert_led at number proc place to wrong e w b lay old more mid new d l k h f =
    let same : more.parts ≡ old.parts = ap (λ (x : WalkedParts). x.parts) d in
    let wrong_is : wrong ≡ error_place (typed_program old.parts) number = k ∙ ap (λ (x : TypedParts). error_place (typed_program x) number) (l ∙ same) in
    let P : TypedParts → Type 0 = λ x. Leads (test_arcs (frame_at (typed_program x) proc) (local_count (typed_program x) proc) proc place e to wrong) (test_needed (frame_at (typed_program x) proc) (local_count (typed_program x) proc) e) w b (walked more) (walked mid) in
    let Q : ℕ → Type 0 = λ x. Leads (test_arcs (frame_at (typed_program old.parts) proc) (local_count (typed_program old.parts) proc) proc place e to x) (test_needed (frame_at (typed_program old.parts) proc) (local_count (typed_program old.parts) proc) e) w b (walked more) (walked mid) in
    assertion_led at (site_of (typed_program old.parts) number at) _ _ w b old more mid new d (subst Q wrong_is (subst P same h)) f
