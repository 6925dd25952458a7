-- The words of the command line, as a simple command of `clap`, and what they ask for.
use Rattle.std.specs.Prelude.{ℕ, List, [], ◌∷◌, Bool, true, Option, None, codes, option_map, option_and_then}
use Rattle.clap.specs.Walk.{Row, Rule, first_of}
use Rattle.clap.specs.Simple.{App, matches_of}
use Rattle.clap.specs.Faults.{fault_of}
use Rattle.clap.specs.Kinds.{Kinds}
use Rattle.text_reports.specs.CommandWords.Rules.{positional, option, flag, bare_command, is_given}

-- PROGRAM ANSWER [--entry NAME] [--all]
abbrev pub arguments : List Rule
arguments = positional (codes "program") true ∷ positional (codes "answer") true ∷ option (codes "entry") (codes "main") ∷ flag (codes "all") ∷ []

unfoldable pub command : App
command = record (bare_command (codes "explain")) { top = record (bare_command (codes "explain")).top { rules = arguments } }

-- the faults that the command finds in the words, none where it takes them
unfoldable pub faults : List (List ℕ) → Kinds
faults words = fault_of command words

-- the values that the words give to the arguments
unfoldable pub values : List (List ℕ) → List Row
values words = matches_of command words

-- The names of two texts, that of the procedure at which runs begin, and whether all steps of a long run are told.
pub record Request : Type 0 where
  pub program : List ℕ
  pub answer : List ℕ
  pub entry : List ℕ
  pub all : Bool

abbrev pub request_of : List Row → Option Request
request_of rows = option_and_then (λ program. option_and_then (λ told. option_and_then (λ entry. option_map (λ all.
    record { program = program; answer = told; entry = entry; all = all })
    (is_given (codes "all") rows)) (first_of (codes "entry") rows)) (first_of (codes "answer") rows)) (first_of (codes "program") rows)

-- the same, where the command finds no fault
abbrev pub request_by : Kinds → List Row → Option Request
request_by [] rows = request_of rows
request_by (fault ∷ more) rows = None

-- What the words ask for; nothing where the command refuses them.
unfoldable pub requested : List (List ℕ) → Option Request
requested words = request_by (faults words) (values words)
