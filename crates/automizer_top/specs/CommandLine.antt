-- The words of the command line, as a simple command of `clap`, and what they ask for.
use Rattle.std.specs.Prelude.{ℕ, ◌==◌, ◌&&◌, ◌||◌, List, [], ◌∷◌, length, slice_index, Bool, true, false, not, Option, None, Some, codes, if◌then◌else◌, nat_lt, nat_le, option_map, option_and_then}
use Rattle.std.specs.Fmt.{decimal}
use Rattle.std.specs.Str.{bytes_eq}
use Rattle.std.specs.Str.Parse.{digits_value}
use Rattle.clap.specs.Walk.{Row, Rule, first_of}
use Rattle.clap.specs.Simple.{App, matches_of}
use Rattle.clap.specs.Faults.{fault_of}
use Rattle.clap.specs.Kinds.{Kinds}
use Rattle.text_reports.specs.CommandWords.Rules.{positional, option, optional, flag, bare_command, is_given}
use Rattle.race_rounds.specs.declared.limits.Limits.{Limits}

-- ---- the command

-- MODE PROGRAM [SECOND] [--entry NAME] [--rounds N] [--workers N] [--depth N] [--modular] [--reuse OLD]
abbrev pub arguments : List Rule
arguments = positional (codes "mode") true ∷ positional (codes "program") true ∷ positional (codes "second") false
    ∷ option (codes "entry") (codes "main") ∷ option (codes "rounds") (codes "1000") ∷ option (codes "workers") (codes "4")
    ∷ option (codes "depth") (codes "16") ∷ flag (codes "modular") ∷ optional (codes "reuse") ∷ []

unfoldable pub command : App
command = record (bare_command (codes "automizer")) { top = record (bare_command (codes "automizer")).top { rules = arguments } }

-- the faults that the command finds in the words, none where it takes them
unfoldable pub faults : List (List ℕ) → Kinds
faults words = fault_of command words

-- the values that the words give to the arguments
unfoldable pub argument_values : List (List ℕ) → List Row
argument_values words = matches_of command words

-- ---- what they ask for

-- what is to be done with texts of these names, or with the generated program of so many procedures
pub data Task : Type 0 where
  Check : List ℕ → List ℕ → Task
  Replay : List ℕ → List ℕ → Task
  Print : List ℕ → Task
  Verify : List ℕ → Task
  Big : ℕ → Task
  Lasso : List ℕ → List ℕ → Task
  Ranked : List ℕ → List ℕ → Task

-- The name of the procedure at which runs begin, the limits of a race, whether each procedure is verified by itself, and the name of the text of
-- an earlier annotation, where one is named.
pub record Settings : Type 0 where
  pub entry : List ℕ
  pub limits : Limits
  pub modular : Bool
  pub reuse : Option (List ℕ)

pub record Request : Type 0 where
  pub task : Task
  pub settings : Settings

-- the text spells its number in decimal digits, without sign or leading zero, and the number lies in that range
abbrev pub is_number_in : ℕ → ℕ → List ℕ → Bool
is_number_in least most text = bytes_eq (decimal (digits_value 10 text)) text
    && (nat_le least (digits_value 10 text) && nat_le (digits_value 10 text) most)

abbrev pub number_in_bounds : ℕ → ℕ → List ℕ → Option ℕ
number_in_bounds least most text = if is_number_in least most text then Some (digits_value 10 text) else None

-- the text has no digit, or begins with a plus or a superfluous zero
abbrev pub is_padded : List ℕ → Bool
is_padded text = length text == 0 || (slice_index text 0 == 43 || (slice_index text 0 == 48 && nat_lt 1 (length text)))

abbrev pub task_of_one : List ℕ → List ℕ → Option Task
task_of_one mode program =
    if bytes_eq mode (codes "print") then Some (Print program)
    else (if bytes_eq mode (codes "verify") then Some (Verify program)
    else (if bytes_eq mode (codes "big") then option_map Big (number_in_bounds 1 200 program) else None))

abbrev pub task_of_two : List ℕ → List ℕ → List ℕ → Option Task
task_of_two mode program second =
    if bytes_eq mode (codes "check") then Some (Check program second)
    else (if bytes_eq mode (codes "replay") then Some (Replay program second)
    else (if bytes_eq mode (codes "lasso") then Some (Lasso program second)
    else (if bytes_eq mode (codes "ranked") then Some (Ranked program second) else None)))

abbrev pub task_by : List ℕ → List ℕ → Option (List ℕ) → Option Task
task_by mode program None = task_of_one mode program
task_by mode program (Some second) = task_of_two mode program second

-- the task that the values of the arguments name
abbrev pub task_of : List Row → Option Task
task_of rows = option_and_then (λ mode. option_and_then (λ program. task_by mode program (first_of (codes "second") rows))
    (first_of (codes "program") rows)) (first_of (codes "mode") rows)

-- no earlier annotation is of parts
abbrev pub go_together : Bool → Option (List ℕ) → Bool
go_together modular None = true
go_together modular (Some name) = not modular

-- the settings that they name, each number in its range, and not both `--modular` and `--reuse`
abbrev pub settings_of : List Row → Option Settings
settings_of rows = option_and_then (λ entry. option_and_then (λ rounds. option_and_then (λ workers. option_and_then (λ depth. option_and_then
    (λ modular. if go_together modular (first_of (codes "reuse") rows) then Some (record {
      entry = entry;
      limits = record { rounds = rounds; workers = workers; depth = depth };
      modular = modular;
      reuse = first_of (codes "reuse") rows;
    }) else None)
    (is_given (codes "modular") rows))
    (option_and_then (number_in_bounds 0 64) (first_of (codes "depth") rows)))
    (option_and_then (number_in_bounds 1 64) (first_of (codes "workers") rows)))
    (option_and_then (number_in_bounds 1 100000) (first_of (codes "rounds") rows)))
    (first_of (codes "entry") rows)

abbrev pub request_of : List Row → Option Request
request_of rows = option_and_then (λ settings. option_map (λ task. record { task = task; settings = settings }) (task_of rows)) (settings_of rows)

-- the same, where the command finds no fault
abbrev pub request_by : Kinds → List Row → Option Request
request_by [] rows = request_of rows
request_by (fault ∷ more) rows = None

-- What the words ask for; nothing where the command refuses them, or they name no mode with as many texts, or a number is out of its range, or both
-- `--modular` and `--reuse` stand.
unfoldable pub requested : List (List ℕ) → Option Request
requested words = request_by (faults words) (argument_values words)
