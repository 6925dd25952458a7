-- From an answer that the report allows to what is said of the bytes that were taken, and of the races.
use Rattle.std.proofs.Common.{◌≡◌, inr, ℕ, false, List, ◌++◌, Option, None, Some, Result, Ok, Err}
use Rattle.std.specs.Prelude.{IfSome, is_err, OnOk}
use Rattle.std.proofs.lemmas.Bool.{false≢true}
use Rattle.outer_io.specs.Texts.{GainsFront}
use Rattle.race_core.specs.Races.{Race}
use Rattle.itp_automaton.specs.Certified.{Certificate}
use Rattle.text_reports.specs.ReportTexts.{Answer}
use Rattle.automizer_top.specs.Report.{Reports}
use Rattle.automizer_top.specs.ReportClaims.{Closes, ClosesAtFront, WhereTold, TookFront}

-- what holds where a call gave no fault
pub where_ok : {S F : Type 0} (P : Type 0) (r : Result S F) → false ≡ is_err r → OnOk r P → P
where_ok P (Ok x) e h = h
where_ok P (Err x) e h = absurd (false≢true e)

module _ (words : List (List ℕ)) (a : Answer) where
  pub closes_given : (texts : Option (List (List ℕ × List ℕ))) (old new : Option (List ℕ)) (status : ℕ) (before after : List (Race Certificate)) →
      IfSome texts (λ shown. Reports words shown a) → status ≡ a.status → IfSome old (λ bytes. new ≡ Some (bytes ++ a.bytes)) → after ≡ before ++ a.races →
      IfSome texts (λ shown. Closes words shown old new status before after)
  closes_given None old new status before after r s t g = tt
  closes_given (Some shown) old new status before after r s t g = record { given = a; answers = record { reported = r; status_is = s; taken = t }; gained = g }

  pub took_front : (texts : Option (List (List ℕ × List ℕ))) (old new : Option (List ℕ)) → IfSome texts (λ shown. Reports words shown a) →
      IfSome old (λ before. GainsFront a.bytes before new) → WhereTold texts old (λ shown before. TookFront words shown before new)
  took_front None old new r f = tt
  took_front (Some shown) None new r f = tt
  took_front (Some shown) (Some before) new r f = inr (a, r, f)

  pub closes_at_front : (texts : Option (List (List ℕ × List ℕ))) (old new : Option (List ℕ)) (before after : List (Race Certificate)) →
      IfSome texts (λ shown. Reports words shown a) → IfSome old (λ bytes. GainsFront a.bytes bytes new) → after ≡ before ++ a.races →
      IfSome texts (λ shown. ClosesAtFront words shown old new before after)
  closes_at_front None old new before after r f g = tt
  closes_at_front (Some shown) old new before after r f g = record { given = a; reported = r; taken = f; gained = g }
