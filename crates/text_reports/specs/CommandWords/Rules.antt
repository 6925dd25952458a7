-- The arguments of a simple command of `clap`, and whether a flag is set.
use Rattle.std.specs.Prelude.{ℕ, List, [], ◌∷◌, Bool, true, Option, Some, codes, option_map}
use Rattle.std.specs.Str.{bytes_eq}
use Rattle.clap.specs.Walk.{Row, Rule, first_of}
use Rattle.clap.specs.Simple.{App, new_rule, new_shape}
use Rattle.clap.specs.declared.builder.action.ArgAction.TheVariants.{SetTrue}

-- a word that belongs to no option
abbrev pub positional : List ℕ → Bool → Rule
positional id required = record (new_rule id) { required = required }

-- an option `--ID VALUE`, with the value that it has where it is left out
abbrev pub option : List ℕ → List ℕ → Rule
option id default = record (new_rule id) { long = Some id; defaults = default ∷ [] }

-- an option `--ID VALUE` that has no value where it is left out
abbrev pub optional : List ℕ → Rule
optional id = record (new_rule id) { long = Some id }

-- a flag `--ID`
abbrev pub flag : List ℕ → Rule
flag id = record (new_rule id) { long = Some id; action = Some SetTrue }

-- a command of that name without arguments: no word is the program's name, and no flag asks for help or the version
abbrev pub bare_command : List ℕ → App
bare_command name = record {
  top = record (new_shape name) { no_binary_name = true; disable_help_flag = true; disable_version_flag = true };
  subs = [];
}

-- whether the flag of that name is set, by the values that words give to the arguments
abbrev pub is_given : List ℕ → List Row → Option Bool
is_given id rows = option_map (λ text. bytes_eq text (codes "true")) (first_of id rows)
