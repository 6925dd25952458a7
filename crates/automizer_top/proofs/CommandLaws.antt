-- What words ask for, by what the command says of them.
use Rattle.std.proofs.Common.{◌≡◌, ℕ, List, [], ◌∷◌, true, None, ap, refl, sym, subst, ◌∙◌}
use Rattle.std.specs.Prelude.{◌≢◌}
use Rattle.clap.specs.Walk.{Row}
use Rattle.clap.specs.Kinds.{Kinds}
use Rattle.clap.specs.Simple.{App, matches_of}
use Rattle.clap.specs.Faults.{fault_of, is_simple_and_free}
use Rattle.automizer_top.specs.CommandLine.{command, faults, argument_values, request_of, request_by, requested}

command_is_free : is_simple_and_free command ≡ true
unfolding command
command_is_free = refl

pub is_free : (a : App) → a ≡ command → is_simple_and_free a ≡ true
is_free a is = subst (λ (b : App). is_simple_and_free b ≡ true) (sym is) command_is_free

-- the faults and values of the command
faults_are : (a : App) (words : List (List ℕ)) → a ≡ command → fault_of a words ≡ faults words
unfolding faults
faults_are a words is = ap (λ (b : App). fault_of b words) is

values_are : (a : App) (words : List (List ℕ)) → a ≡ command → matches_of a words ≡ argument_values words
unfolding argument_values
values_are a words is = ap (λ (b : App). matches_of b words) is

pub refused_asks_nothing : (a : App) (words : List (List ℕ)) → a ≡ command → fault_of a words ≢ [] → None ≡ requested words
unfolding requested
refused_asks_nothing a words is h = by_faults (faults words) (argument_values words) (λ none. h (faults_are a words is ∙ none))
  where
    by_faults : (ks : Kinds) (rows : List Row) → ks ≢ [] → None ≡ request_by ks rows
    by_faults [] rows some = absurd (some refl)
    by_faults (k ∷ ks) rows some = refl

pub taken_asks : (a : App) (words : List (List ℕ)) (rows : List Row) → a ≡ command → fault_of a words ≡ [] → rows ≡ matches_of a words → request_of rows ≡ requested words
unfolding requested
taken_asks a words rows is none same =
    ap request_of (same ∙ values_are a words is) ∙ ap (λ (ks : Kinds). request_by ks (argument_values words)) (sym (sym (faults_are a words is) ∙ none))
