-- What the code read of the words, as contracts see it.
use Rattle.std.specs.Prelude.{ℕ, ◌≤◌, List, option_map}
use Rattle.automizer_top.specs.declared.words.Mode.{Mode}
use Rattle.automizer_top.specs.declared.words.Mode.TheVariants.{Check, Replay, Print, Verify, Lasso, Ranked}
use Rattle.automizer_top.specs.declared.words.Task.{Task}
use Rattle.automizer_top.specs.declared.words.Task.TheVariants.{Texts, Generated}
use Rattle.automizer_top.specs.declared.words.Options.{Options}
use Rattle.automizer_top.specs.declared.words.Request.{Request}
use Rattle.automizer_top.specs.CommandLine as line

abbrev pub of_texts : Mode → line.Task
of_texts (Check program second) = line.Check program.now second.now
of_texts (Replay program second) = line.Replay program.now second.now
of_texts (Print program) = line.Print program.now
of_texts (Verify program) = line.Verify program.now
of_texts (Lasso program second) = line.Lasso program.now second.now
of_texts (Ranked program second) = line.Ranked program.now second.now

abbrev pub task : Task → line.Task
task (Texts mode) = of_texts mode
task (Generated count) = line.Big count

-- the number of generated procedures is in its range
abbrev pub IsCounted : Task → Type 0
IsCounted (Texts mode) = Unit {0}
IsCounted (Generated count) = (1 ≤ count) × (count ≤ 200)

abbrev pub settings : Options → line.Settings
settings o = record { entry = o.entry.now; limits = o.limits; modular = o.modular; reuse = option_map (λ name. name.now) o.reuse }

abbrev pub asked : Request → line.Request
asked r = record { task = task r.task; settings = settings r.options }

-- the name of the program text
abbrev pub program_name : Mode → List ℕ
program_name (Check program second) = program.now
program_name (Replay program second) = program.now
program_name (Print program) = program.now
program_name (Verify program) = program.now
program_name (Lasso program second) = program.now
program_name (Ranked program second) = program.now
