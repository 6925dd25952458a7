-- What is answered to words that ask for a ranking of a lasso, or for its check; and that the graph of its program is one.
use Rattle.std.proofs.Common.{◌≡◌, ◌⊎◌, inl, inr, ℕ, ◌≤◌, List, length, Option, None, Some, Result, Ok, Err, arith}
use Rattle.std.specs.Prelude.{IfOk, IfSome}
use Rattle.std.specs.Borrow.{Bor}
use Rattle.outer_io.specs.Texts.{text_named}
use Rattle.typed_tree.specs.TypedTree.{TypedProgram}
use Rattle.letter_acts.specs.Invariant.{IsGraph}
use Rattle.lowered_graph.specs.Lowered.{lowered}
use Rattle.automizer_top.specs.declared.answer.Answer as code
use Rattle.text_reports.specs.declared.reading.Halt.{Halt}
use Rattle.automizer_top.specs.declared.words.Mode.{Mode}
use Rattle.automizer_top.specs.declared.words.Mode.TheVariants as modes
use Rattle.automizer_top.specs.declared.words.Options.{Options}
use Rattle.automizer_top.specs.CommandLine.{Task, Check, Replay, Print, Verify, Big, Lasso, Ranked, Settings}
use Rattle.automizer_top.specs.Ties.Asked.{settings, program_name}
use Rattle.automizer_top.specs.Ties.Answers.{answered, Asks, TextIsGraph, RankedIsGraph}
use Rattle.automizer_top.specs.Report.{program_limit, Ask, IsTypedText, Reports, seeking, ranking}
use Rattle.automizer_top.specs.Rankings.{ReportsLasso, ReportsRanked}
use Rattle.automizer_top.proofs.RequestLaws.{kind_of, only_one}
use Rattle.automizer_top.proofs.ReportLaws.{told, asks_for, text_of, meant_by, program_is}

abbrev Texts : Type 0
Texts = List (List ℕ × List ℕ)

-- the program text was read
abbrev pub IsRead : List ℕ → List ℕ → Option Texts → Type 0
IsRead name text texts = IfSome texts (λ shown. (text_named name shown ≡ Some text) × (length text ≤ program_limit))

module _ (words : List (List ℕ)) (mode : Mode) (o : Options) (program second : Bor (List ℕ)) (name text : List ℕ) (r : Result code.Answer Halt) (ask : Asks words mode o)
    (same : name ≡ program_name mode) where
  -- and a ranking is looked for
  pub lasso_answered : (texts : Option Texts) → mode ≡ modes.Lasso program second → IsRead name text texts →
      IfOk r (λ a. IfSome texts (λ shown. ReportsLasso o.entry.now o.limits.depth text (text_named second.now shown) (answered a))) →
      IfOk r (λ a. IfSome texts (λ shown. Reports words shown (answered a)))
  lasso_answered texts is h given = by_result r texts h given
    where
      by_result : (r : Result code.Answer Halt) (texts : Option Texts) → IsRead name text texts →
          IfOk r (λ a. IfSome texts (λ shown. ReportsLasso o.entry.now o.limits.depth text (text_named second.now shown) (answered a))) →
          IfOk r (λ a. IfSome texts (λ shown. Reports words shown (answered a)))
      by_result (Err e) texts h given = tt
      by_result (Ok a) None h given = tt
      by_result (Ok a) (Some shown) h given =
          seeking (settings o) program.now second.now text (asks_for words mode (modes.Lasso program second) o ask is)
          (text_of mode (modes.Lasso program second) name text shown is same h.0) given

  -- or checked
  pub ranked_answered : (texts : Option Texts) → mode ≡ modes.Ranked program second → IsRead name text texts →
      IfOk r (λ a. IfSome texts (λ shown. ReportsRanked o.entry.now text (text_named second.now shown) (answered a))) →
      IfOk r (λ a. IfSome texts (λ shown. Reports words shown (answered a)))
  ranked_answered texts is h given = by_result r texts h given
    where
      by_result : (r : Result code.Answer Halt) (texts : Option Texts) → IsRead name text texts →
          IfOk r (λ a. IfSome texts (λ shown. ReportsRanked o.entry.now text (text_named second.now shown) (answered a))) →
          IfOk r (λ a. IfSome texts (λ shown. Reports words shown (answered a)))
      by_result (Err e) texts h given = tt
      by_result (Ok a) None h given = tt
      by_result (Ok a) (Some shown) h given =
          ranking (settings o) program.now second.now text (asks_for words mode (modes.Ranked program second) o ask is)
          (text_of mode (modes.Ranked program second) name text shown is same h.0) given

-- ---- the graph of its program is one

-- the program that the words name is the one that was read
of_asked : (words : List (List ℕ)) (mode : Mode) (o : Options) (name text : List ℕ) (shown : Texts) (t : TypedProgram) → Asks words mode o → name ≡ program_name mode →
    text_named name shown ≡ Some text → TextIsGraph o.entry.now text → (s : Settings) (program second read : List ℕ) →
    Ask words s (Lasso program second) ⊎ Ask words s (Ranked program second) → text_named program shown ≡ Some read → IsTypedText s.entry read t → IsGraph (lowered t)
of_asked words mode o name text shown t ask same found graph s program second read (inl asked) is typed =
    graph t (meant_by words mode o name text shown s (Lasso program second) read t ask same (program_is mode) found asked is typed)
of_asked words mode o name text shown t ask same found graph s program second read (inr asked) is typed =
    graph t (meant_by words mode o name text shown s (Ranked program second) read t ask same (program_is mode) found asked is typed)

pub text_is_of_words : (words : List (List ℕ)) (mode : Mode) (o : Options) (name text : List ℕ) (r : Result code.Answer Halt) (texts : Option Texts) → Asks words mode o →
    name ≡ program_name mode → IsRead name text texts → IfOk r (λ a. (answered a).status ≡ 0 → TextIsGraph o.entry.now text) →
    IfOk r (λ a. (answered a).status ≡ 0 → IfSome texts (λ shown. RankedIsGraph words shown))
text_is_of_words words mode o name text (Err e) texts ask same h graph = tt
text_is_of_words words mode o name text (Ok a) None ask same h graph = λ z. tt
text_is_of_words words mode o name text (Ok a) (Some shown) ask same h graph = λ z t k.
    of_asked words mode o name text shown t ask same h.0 (graph z) k.settings k.program k.second k.text k.asked k.found k.typed

-- words that ask for no ranking
abbrev pub IsNoRanking : Mode → Type 0
IsNoRanking (modes.Check program second) = Unit {0}
IsNoRanking (modes.Replay program second) = Unit {0}
IsNoRanking (modes.Print program) = Unit {0}
IsNoRanking (modes.Verify program) = Unit {0}
IsNoRanking (modes.Lasso program second) = ⊥
IsNoRanking (modes.Ranked program second) = ⊥

-- the numbers of the tasks of a lasso and of a ranking
not_of_task : (words : List (List ℕ)) (u s : Settings) (x : Task) (p q : List ℕ) → Ask words u x → (kind_of x ≡ 5 → ⊥) → (kind_of x ≡ 6 → ⊥) →
    Ask words s (Lasso p q) ⊎ Ask words s (Ranked p q) → ⊥
not_of_task words u s x p q ask five six (inl k) = only_one words u s x (Lasso p q) ask k five
not_of_task words u s x p q ask five six (inr k) = only_one words u s x (Ranked p q) ask k six

not_ranked : (words : List (List ℕ)) (mode : Mode) (o : Options) (s : Settings) (p q : List ℕ) → Asks words mode o → IsNoRanking mode →
    Ask words s (Lasso p q) ⊎ Ask words s (Ranked p q) → ⊥
not_ranked words (modes.Check program second) o s p q ask n =
    not_of_task words (settings o) s (Check program.now second.now) p q ask (λ (e : 0 ≡ 5). omega arith) (λ (e : 0 ≡ 6). omega arith)
not_ranked words (modes.Replay program second) o s p q ask n =
    not_of_task words (settings o) s (Replay program.now second.now) p q ask (λ (e : 1 ≡ 5). omega arith) (λ (e : 1 ≡ 6). omega arith)
not_ranked words (modes.Print program) o s p q ask n =
    not_of_task words (settings o) s (Print program.now) p q ask (λ (e : 2 ≡ 5). omega arith) (λ (e : 2 ≡ 6). omega arith)
not_ranked words (modes.Verify program) o s p q ask n =
    not_of_task words (settings o) s (Verify program.now) p q ask (λ (e : 3 ≡ 5). omega arith) (λ (e : 3 ≡ 6). omega arith)
not_ranked words (modes.Lasso program second) o s p q ask n = absurd n
not_ranked words (modes.Ranked program second) o s p q ask n = absurd n

pub unranked : (words : List (List ℕ)) (mode : Mode) (o : Options) (r : Result code.Answer Halt) (texts : Option Texts) → Asks words mode o → IsNoRanking mode →
    IfOk r (λ a. (answered a).status ≡ 0 → IfSome texts (λ shown. RankedIsGraph words shown))
unranked words mode o (Err e) texts ask n = tt
unranked words mode o (Ok a) texts ask n =
    λ z. told (λ shown. RankedIsGraph words shown) texts (λ shown t k. absurd (not_ranked words mode o k.settings k.program k.second ask n k.asked))

-- so do those that ask for the generated program
pub no_ranking : (words : List (List ℕ)) (s : Settings) (count : ℕ) (texts : Option Texts) → Ask words s (Big count) → IfSome texts (λ shown. RankedIsGraph words shown)
no_ranking words s count texts ask =
    told (λ shown. RankedIsGraph words shown) texts
    (λ shown t k. absurd (not_of_task words s k.settings (Big count) k.program k.second ask (λ (e : 4 ≡ 5). omega arith) (λ (e : 4 ≡ 6). omega arith) k.asked))
