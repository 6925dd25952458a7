-- What is answered to a program of which an earlier annotation is at hand.
use Rattle.std.proofs.Common.{◌≡◌, ℕ, ◌≤◌, List, length, Bool, true, false, Option, None, Some, refl, sym, subst}
use Rattle.std.proofs.lemmas.Bool.{false≢true}
use Rattle.std.proofs.lemmas.Option.{none-some, same_Some}
use Rattle.std.specs.Prelude.{Result, Ok, Err, IfOk, IfSome, option_map}
use Rattle.std.specs.Borrow.{Bor}
use Rattle.std.specs.declared.alloc.AllocError.{AllocError}
use Rattle.outer_io.specs.Texts.{text_named}
use Rattle.nwa_base.specs.declared.letters.Letter.{Letter}
use Rattle.nwa_base.specs.Acceptance.{Accepts}
use Rattle.typed_tree.specs.TypedTree.{TypedProgram}
use Rattle.letter_acts.specs.Invariant.{Graph, alphabet_of}
use Rattle.lowered_graph.specs.Lowered.{lowered}
use Rattle.race_core.specs.declared.events.Entry.{Entry}
use Rattle.itp_automaton.specs.Certified.{Certificate, IsCertified}
use Rattle.race_rounds.specs.declared.limits.Limits.{Limits}
use Rattle.automizer_top.specs.declared.answer.Answer as code
use Rattle.text_reports.specs.declared.reading.Halt.{Halt}
use Rattle.text_reports.specs.ReportTexts.{Answer}
use Rattle.text_reports.specs.Answers.{IsGraphOf}
use Rattle.automizer_top.specs.Ties.Answers.{answered}
use Rattle.automizer_top.specs.Report.{second_limit, RefusesTyped, IsTypedText, refused, of_typed, RefusesLowering, unlowered, of_lowered, ReportsSecond, ReportsVerdict, ReportsVerify, ReportsVerifyBy}
use Rattle.automizer_top.specs.Parts.{ReportsVerifyParts}
use Rattle.automizer_top.specs.Earlier.{IsFirstEntry, ReportsReuse, no_earlier, of_earlier, ReportsVerifyWith}
use Rattle.automizer_top.specs.Ties.EarlierViews.{IsLeftOf, RefusesText, IsGivenOver}

abbrev Texts : Type 0
Texts = List (List ℕ × List ℕ)

-- ---- the entry

-- an entry with this automaton and a word of both, or none where there is no such word
pub first_entry : (g : Graph) (c : Certificate) (first : Option (Entry Certificate)) →
    IfSome first (λ e. (e.evidence ≡ c) × Accepts g.automaton e.word × Accepts c.automaton e.word) →
    (first ≡ None → (w : List Letter) → Accepts g.automaton w → Accepts c.automaton w → ⊥) → IsFirstEntry g c first
first_entry g c None found none = none refl
first_entry g c (Some e) found none = found

-- what is left of an earlier annotation may begin a race
left_begins : (t : TypedProgram) (text : List ℕ) (first : Option (Entry Certificate)) → IsLeftOf (lowered t) text first → IfSome first (IsGivenOver t)
left_begins t text None left = tt
left_begins t text (Some e) left =
    let first = left.first_is in (
      first.1,
      record {
        certified = subst (λ (c : Certificate). IsCertified (alphabet_of (lowered t)) c) (sym first.0) left.reused.certified;
        own = subst (λ (c : Certificate). Accepts c.automaton e.word) (sym first.0) first.2;
      },
    )

pub left_is_given : (t : TypedProgram) (g : Graph) (text : List ℕ) (first : Option (Entry Certificate)) → g ≡ lowered t → IsLeftOf g text first → IfSome first (IsGivenOver t)
left_is_given t g text first same left = left_begins t text first (subst (λ (x : Graph). IsLeftOf x text first) same left)

-- ---- what is answered

reported_of : (l : Limits) (t : TypedProgram) (text : List ℕ) (first : Option (Entry Certificate)) (a : Answer) → IsLeftOf (lowered t) text first → ReportsVerdict first l t a →
    length a.bytes ≤ second_limit → ReportsReuse l t text a
reported_of l t text first a left v short = of_earlier left.coarse left.old left.automaton first left.spelled left.reused left.first_is v short

-- a race that begins with what is left decides
pub reuse_reported : (l : Limits) (t : TypedProgram) (g : Graph) (text : List ℕ) (first : Option (Entry Certificate)) (r : Result code.Answer AllocError) → g ≡ lowered t →
    IsLeftOf g text first → IfOk r (λ a. ReportsVerdict first l t (answered a)) → IfOk r (λ a. length (answered a).bytes ≤ second_limit) →
    IfOk r (λ a. ReportsReuse l t text (answered a))
reuse_reported l t g text first (Ok a) same left v short =
    reported_of l t text first (answered a) (subst (λ (x : Graph). IsLeftOf x text first) same left) v short
reuse_reported l t g text first (Err e) same left v short = tt

-- the text is none
pub reuse_refused : (l : Limits) (t : TypedProgram) (text : List ℕ) (a : Answer) → RefusesText text a → ReportsReuse l t text a
reuse_refused l t text a r = no_earlier r.0 r.1 r.2

-- ---- what is answered to both texts

-- the program is refused, whatever the earlier annotation
pub refused_with : (entry : List ℕ) (l : Limits) (text name : List ℕ) (a : Answer) (texts : Option Texts) → RefusesTyped entry text a →
    IfSome texts (λ shown. ReportsVerifyWith entry l text (text_named name shown) a)
refused_with entry l text name a None r = tt
refused_with entry l text name a (Some shown) r = refused r

-- it cannot be lowered
pub unlowered_with : (entry : List ℕ) (l : Limits) (text name : List ℕ) (t : TypedProgram) (a : Answer) (texts : Option Texts) → IsTypedText entry text t → RefusesLowering t a →
    IfSome texts (λ shown. ReportsVerifyWith entry l text (text_named name shown) a)
unlowered_with entry l text name t a None w r = tt
unlowered_with entry l text name t a (Some shown) w r = of_typed t w (unlowered r)

-- it has a graph, and this is answered to that and to the earlier annotation
pub decided_with : (entry : List ℕ) (l : Limits) (text name : List ℕ) (t : TypedProgram) (g : Graph) (r : Result code.Answer Halt) (texts : Option Texts) → IsTypedText entry text t →
    IsGraphOf t g → IfOk r (λ a. IfSome texts (λ shown. ReportsSecond (text_named name shown) (ReportsReuse l t) (answered a))) →
    IfOk r (λ a. IfSome texts (λ shown. ReportsVerifyWith entry l text (text_named name shown) (answered a)))
decided_with entry l text name t g (Err e) texts w h k = tt
decided_with entry l text name t g (Ok a) None w h k = tt
decided_with entry l text name t g (Ok a) (Some shown) w h k = of_typed t w (of_lowered h.fits k)

-- ---- with an earlier annotation or without

abbrev OptionalName : Type 0
OptionalName = Option (Bor (List ℕ))

pub by_parts : (m : Bool) (reuse : OptionalName) (entry : List ℕ) (l : Limits) (text : List ℕ) (a : Answer) (texts : Option Texts) → m ≡ true → ReportsVerifyParts entry l text a →
    IfSome texts (λ shown. ReportsVerifyBy m (option_map (λ name. name.now) reuse) shown entry l text a)
by_parts m reuse entry l text a None on r = tt
by_parts true reuse entry l text a (Some shown) on r = r
by_parts false reuse entry l text a (Some shown) on r = absurd (false≢true on)

pub by_program : (m : Bool) (reuse : OptionalName) (entry : List ℕ) (l : Limits) (text : List ℕ) (a : Answer) (texts : Option Texts) → m ≡ false → reuse ≡ None → ReportsVerify entry l text a →
    IfSome texts (λ shown. ReportsVerifyBy m (option_map (λ name. name.now) reuse) shown entry l text a)
by_program m reuse entry l text a None off none r = tt
by_program true reuse entry l text a (Some shown) off none r = absurd (false≢true (sym off))
by_program false None entry l text a (Some shown) off none r = r
by_program false (Some name) entry l text a (Some shown) off none r = absurd (none-some name (sym none))

pub by_earlier : (m : Bool) (reuse : OptionalName) (old : Bor (List ℕ)) (entry : List ℕ) (l : Limits) (text : List ℕ) (r : Result code.Answer Halt) (texts : Option Texts) → m ≡ false → reuse ≡ Some old →
    IfOk r (λ a. IfSome texts (λ shown. ReportsVerifyWith entry l text (text_named old.now shown) (answered a))) →
    IfOk r (λ a. IfSome texts (λ shown. ReportsVerifyBy m (option_map (λ name. name.now) reuse) shown entry l text (answered a)))
by_earlier m reuse old entry l text (Err e) texts off some h = tt
by_earlier m reuse old entry l text (Ok a) None off some h = tt
by_earlier true reuse old entry l text (Ok a) (Some shown) off some h = absurd (false≢true (sym off))
by_earlier false None old entry l text (Ok a) (Some shown) off some h = absurd (none-some old some)
by_earlier false (Some name) old entry l text (Ok a) (Some shown) off some h =
    subst (λ (n : Bor (List ℕ)). ReportsVerifyWith entry l text (text_named n.now shown) (answered a)) (sym (same_Some name old some)) h
