-- From an answer to what the program has made of it, over plain values.
use Rattle.std.proofs.Common.{◌≡◌, ◌<◌, ◌≤◌, inl, inr, ◌⊎◌, ℕ, List, ◌++◌, length, Option, None, Some, Result, Ok, Err, refl, ap, sym, ◌∙◌, subst, arith}
use Rattle.std.specs.Prelude.{IfOk, IfSome, IsSome}
use Rattle.std.proofs.lemmas.Option.{same_Some}
use Rattle.outer_io.specs.Texts.{text_named, GainsFront}
use Rattle.lowered_graph.specs.Lowered.{lowered}
use Rattle.text_reports.specs.declared.answers.TextAnswer.{TextAnswer}
use Rattle.text_reports.specs.ReportTexts.{Answer, too_long_answer}
use Rattle.text_reports.specs.ReportCases.{program_limit, too_long, refused_text, refused, of_typed, unlowered, of_lowered, second_too_long, of_second}
use Rattle.text_reports.specs.Answers.{answer_of, TextIsSafe}
use Rattle.text_reports.proofs.TextLaws.{below_four}
use Rattle.text_reports.proofs.RefusalLaws.{typed_is_not_zero, lowering_is_not_zero, too_long_is_not_zero}
use Rattle.explain_top.specs.declared.answers.Answer as code
use Rattle.explain_top.specs.declared.answers.Answer.TheVariants.{Usage, OfTexts}
use Rattle.explain_top.specs.CommandLine.{Request, requested}
use Rattle.explain_top.specs.Report.{Kind, OfFailure, OfTrace, OfProof, kind_of, Explains, ReportsExplain, Reports, explaining}
use Rattle.explain_top.specs.Claims.{AsksFor, ProgramIsSafe, ProgramFails, TraceIsTold, Answers, TookFront}
use Rattle.explain_top.specs.Ties.Views.{answered}
use Rattle.explain_top.proofs.FailureLaws.{told_fails}
use Rattle.explain_top.proofs.TraceOnce.{told_leads}

abbrev Texts : Type 0
Texts = List (List ℕ × List ℕ)

-- ---- what is answered to texts

module _ (words : List (List ℕ)) (q : Request) (ask : requested words ≡ Some q) where
  -- the program text is past its limit
  pub past_limit : (texts : Option Texts) →
      IfSome texts (λ shown. IsSome (text_named q.program shown) × IfSome (text_named q.program shown) (λ text. program_limit < length text)) →
      IfSome texts (λ shown. Reports words shown too_long_answer)
  past_limit None h = tt
  past_limit (Some shown) h = by_text (text_named q.program shown) refl h.0 h.1
    where
      by_text : (found : Option (List ℕ)) → text_named q.program shown ≡ found → IsSome found → IfSome found (λ text. program_limit < length text) → Reports words shown too_long_answer
      by_text None e some past = cc
      by_text (Some text) e some past = explaining q text ask e (refused (refused_text (too_long past refl)))

  -- it is read, and this is answered to it
  pub text_explained : {E : Type 0} (text : List ℕ) (r : Result TextAnswer E) (texts : Option Texts) →
      IfSome texts (λ shown. (text_named q.program shown ≡ Some text) × (length text ≤ program_limit)) →
      IfOk r (λ a. IfSome texts (λ shown. ReportsExplain q.entry q.all text (text_named q.answer shown) (answer_of a))) →
      IfOk r (λ a. IfSome texts (λ shown. Reports words shown (answer_of a)))
  text_explained text (Err e) texts h r = tt
  text_explained text (Ok a) None h r = tt
  text_explained text (Ok a) (Some shown) h r = explaining q text ask h.0 r

  -- what is said by how that text begins
  abbrev SaysBy : Kind → Texts → Type 0
  SaysBy OfProof shown = ProgramIsSafe words shown
  SaysBy OfFailure shown = ProgramFails words shown
  SaysBy OfTrace shown = TraceIsTold words shown

  -- What status 0 says: the second text is there, and the program is safe, or fails, or a word leads to a failure, as that text begins.
  pub record SaysSo (shown : Texts) : Type 0 where
    pub second : List ℕ
    pub named : text_named q.answer shown ≡ Some second
    pub so : SaysBy (kind_of second) shown

  says_so : (text : List ℕ) (shown : Texts) (a : Answer) → text_named q.program shown ≡ Some text → ReportsExplain q.entry q.all text (text_named q.answer shown) a → a.status ≡ 0 →
      ((told : List ℕ) → text_named q.answer shown ≡ Some told → kind_of told ≡ OfProof → a.status ≡ 0 → TextIsSafe q.entry text) → SaysSo shown
  says_so text shown a found (refused r) zero s = absurd (typed_is_not_zero q.entry text a r zero)
  says_so text shown a found (of_typed t w (unlowered r)) zero s = absurd (lowering_is_not_zero t a r zero)
  says_so text shown a found (of_typed t w (of_lowered none (second_too_long x e past is))) zero s = absurd (too_long_is_not_zero a is zero)
  says_so text shown a found (of_typed t w (of_lowered none (of_second x e l r))) zero s = record { second = x; named = e; so = by_kind (kind_of x) refl r }
    where
      asks : AsksFor words shown t
      asks = record { request = q; asked = ask; text = text; found = found; typed = w }

      by_kind : (k : Kind) → kind_of x ≡ k → Explains k text q.all t (lowered t) x a → SaysBy k shown
      by_kind OfFailure is h =
          let fails = told_fails text q.all t x a h zero in
          (t, asks, fails.0, fails.1)
      by_kind OfTrace is h =
          let leads = told_leads text q.all t (lowered t) x a h zero in
          (t, asks, leads.0, leads.1, leads.2)
      by_kind OfProof is h = (t, asks, s x e is zero t w)

  -- what is said of the text that is named by what words ask for
  is_second : (shown : Texts) (h : SaysSo shown) (p : Request) (second : List ℕ) → requested words ≡ Some p → text_named p.answer shown ≡ Some second → kind_of second ≡ kind_of h.second
  is_second shown h p second asked named =
      let same : p ≡ q = same_Some p q (sym asked ∙ ask) in
      let there : text_named q.answer shown ≡ Some second = subst (λ (o : Request). text_named o.answer shown ≡ Some second) same named in
      ap kind_of (same_Some second h.second (sym there ∙ h.named))

  -- one of the three is so
  abbrev SaysAny : Texts → Type 0
  SaysAny shown = ProgramIsSafe words shown ⊎ (ProgramFails words shown ⊎ TraceIsTold words shown)

  any_of : (shown : Texts) (k : Kind) → SaysBy k shown → SaysAny shown
  any_of shown OfProof h = inl h
  any_of shown OfFailure h = inr (inl h)
  any_of shown OfTrace h = inr (inr h)

  safe_or_fails : (shown : Texts) → SaysSo shown → SaysAny shown
  safe_or_fails shown h = any_of shown (kind_of h.second) h.so

  -- what the text says that is named, of this kind
  says_by : (shown : Texts) → SaysSo shown → (k : Kind) (p : Request) (second : List ℕ) → requested words ≡ Some p → text_named p.answer shown ≡ Some second → kind_of second ≡ k →
      SaysBy k shown
  says_by shown h k p second asked named kind = subst (λ (o : Kind). SaysBy o shown) (sym (is_second shown h p second asked named) ∙ kind) h.so

  is_safe : (shown : Texts) → SaysSo shown → (p : Request) (second : List ℕ) → requested words ≡ Some p → text_named p.answer shown ≡ Some second → kind_of second ≡ OfProof →
      ProgramIsSafe words shown
  is_safe shown h p second asked named kind = says_by shown h OfProof p second asked named kind

  fails : (shown : Texts) → SaysSo shown → (p : Request) (second : List ℕ) → requested words ≡ Some p → text_named p.answer shown ≡ Some second → kind_of second ≡ OfFailure →
      ProgramFails words shown
  fails shown h p second asked named kind = says_by shown h OfFailure p second asked named kind

  leads : (shown : Texts) → SaysSo shown → (p : Request) (second : List ℕ) → requested words ≡ Some p → text_named p.answer shown ≡ Some second → kind_of second ≡ OfTrace →
      TraceIsTold words shown
  leads shown h p second asked named kind = says_by shown h OfTrace p second asked named kind

  -- what was proved of the second text, where the shelf tells its texts
  abbrev SafeByProof : List ℕ → Option Texts → Answer → Type 0
  SafeByProof text texts a =
      (told : List ℕ) → IfSome texts (λ shown. text_named q.answer shown ≡ Some told → kind_of told ≡ OfProof → a.status ≡ 0 → TextIsSafe q.entry text)

  pub text_says : {E : Type 0} (text : List ℕ) (r : Result TextAnswer E) (texts : Option Texts) →
      IfSome texts (λ shown. (text_named q.program shown ≡ Some text) × (length text ≤ program_limit)) →
      IfOk r (λ a. IfSome texts (λ shown. ReportsExplain q.entry q.all text (text_named q.answer shown) (answer_of a))) →
      IfOk r (λ a. SafeByProof text texts (answer_of a)) → IfOk r (λ a. (answer_of a).status ≡ 0 → IfSome texts SaysSo)
  text_says text (Err e) texts h r s = tt
  text_says text (Ok a) None h r s = λ zero. tt
  text_says text (Ok a) (Some shown) h r s = λ zero. says_so text shown (answer_of a) h.0 r zero s

  pub told_so : {E : Type 0} (r : Result TextAnswer E) (texts : Option Texts) → IfOk r (λ a. (answer_of a).status ≡ 0 → IfSome texts SaysSo) →
      IfOk r (λ a. (answer_of a).status ≡ 0 → IfSome texts SaysAny)
  told_so (Err e) texts h = tt
  told_so (Ok a) None h = λ zero. tt
  told_so (Ok a) (Some shown) h = λ zero. safe_or_fails shown (h zero)

  pub told_safe : {E : Type 0} (r : Result TextAnswer E) (texts : Option Texts) → IfOk r (λ a. (answer_of a).status ≡ 0 → IfSome texts SaysSo) →
      IfOk r (λ a. (answer_of a).status ≡ 0 → (p : Request) (second : List ℕ) → requested words ≡ Some p →
      IfSome texts (λ shown. text_named p.answer shown ≡ Some second → kind_of second ≡ OfProof → ProgramIsSafe words shown))
  told_safe (Err e) texts h = tt
  told_safe (Ok a) None h = λ zero p second asked. tt
  told_safe (Ok a) (Some shown) h = λ zero p second asked. is_safe shown (h zero) p second asked

  pub told_failing : {E : Type 0} (r : Result TextAnswer E) (texts : Option Texts) → IfOk r (λ a. (answer_of a).status ≡ 0 → IfSome texts SaysSo) →
      IfOk r (λ a. (answer_of a).status ≡ 0 → (p : Request) (second : List ℕ) → requested words ≡ Some p →
      IfSome texts (λ shown. text_named p.answer shown ≡ Some second → kind_of second ≡ OfFailure → ProgramFails words shown))
  told_failing (Err e) texts h = tt
  told_failing (Ok a) None h = λ zero p second asked. tt
  told_failing (Ok a) (Some shown) h = λ zero p second asked. fails shown (h zero) p second asked

  pub told_leading : {E : Type 0} (r : Result TextAnswer E) (texts : Option Texts) → IfOk r (λ a. (answer_of a).status ≡ 0 → IfSome texts SaysSo) →
      IfOk r (λ a. (answer_of a).status ≡ 0 → (p : Request) (second : List ℕ) → requested words ≡ Some p →
      IfSome texts (λ shown. text_named p.answer shown ≡ Some second → kind_of second ≡ OfTrace → TraceIsTold words shown))
  told_leading (Err e) texts h = tt
  told_leading (Ok a) None h = λ zero p second asked. tt
  told_leading (Ok a) (Some shown) h = λ zero p second asked. leads shown (h zero) p second asked

-- ---- statuses

below_five : (a : code.Answer) → (answered a).status < 5
below_five Usage = omega arith
below_five (OfTexts a) = let b = below_four a in omega (arith, b)

pub is_not_five : (a : code.Answer) (status : ℕ) → status ≡ (answered a).status → status ≡ 5 → ⊥
is_not_five a status e f = let b = below_five a in omega (arith, b, e, f)

pub is_not_six : (a : code.Answer) (status : ℕ) → status ≡ (answered a).status → status ≡ 6 → ⊥
is_not_six a status e f = let b = below_five a in omega (arith, b, e, f)

-- ---- what was taken

module _ (words : List (List ℕ)) (a : Answer) where
  pub answer_given : (texts : Option Texts) (old new : Option (List ℕ)) (status : ℕ) → IfSome texts (λ shown. Reports words shown a) → status ≡ a.status →
      IfSome old (λ bytes. new ≡ Some (bytes ++ a.bytes)) → IfSome texts (λ shown. Answers words shown old new status)
  answer_given None old new status r s t = tt
  answer_given (Some shown) old new status r s t = record { given = a; reported = r; status_is = s; taken = t }

  pub took_front : (texts : Option Texts) (old new : Option (List ℕ)) → IfSome texts (λ shown. Reports words shown a) →
      IfSome old (λ before. GainsFront a.bytes before new) → IfSome texts (λ shown. IfSome old (λ before. TookFront words shown before new))
  took_front None old new r f = tt
  took_front (Some shown) None new r f = tt
  took_front (Some shown) (Some before) new r f = inr (a, r, f)
