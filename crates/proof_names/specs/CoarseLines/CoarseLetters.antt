-- The coarse letters that the triples of an annotation name, and the first of the lines that tell them that is wrong or missing.
use Rattle.std.specs.Prelude.{ℕ, ◌+◌, Bool, false, ◌&&◌, not, nat_eq, nat_le, List, [], ◌∷◌, length, Option, None, Some, if◌then◌else◌}
use Rattle.std.specs.List.{filter, list_any, position_from, range_with_len}
use Rattle.letter_acts.specs.Invariant.{Graph, mark_at}
use Rattle.proof_form.specs.Lines.{Triple, inside_triple, call_triple, back_triple}
use Rattle.proof_form.specs.Annotations.{Content}
use Rattle.proof_names.specs.Numbers.{short_in}

-- the letter that a triple's line names, if its number has 32 bits: a return names its own letter, and not that of its call
abbrev pub letter_named : Triple → Option ℕ
letter_named (inside_triple from letter to proof) = short_in letter
letter_named (call_triple from letter to proof) = short_in letter
letter_named (back_triple exit before letter to proof) = short_in letter

abbrev pub is_named_letter : ℕ → Option ℕ → Bool
is_named_letter n None = false
is_named_letter n (Some m) = nat_eq m n

abbrev pub names_letter : ℕ → Triple → Bool
names_letter n t = is_named_letter n (letter_named t)

-- the letter is coarse, and one of the triples names it
abbrev pub is_told : Graph → List Triple → ℕ → Bool
is_told g triples n = mark_at g n && list_any (names_letter n) triples

-- the letters of the graph that are coarse and that a triple names: ascending, each once
abbrev pub coarse_letters : Graph → Content → List ℕ
coarse_letters g a = filter (is_told g a.triples) (range_with_len 0 (length g.marks))

-- The place of the first line that is wrong, where the first line has the place k and its letter is to be no less than `low`. A line is right
-- where its letter passes the test and is greater than that of the line before.
abbrev pub first_wrong_from : (ℕ → Bool) → ℕ → ℕ → List ℕ → Option ℕ
first_wrong_from test low k [] = None
first_wrong_from test low k (n ∷ ns) = if nat_le low n && test n then first_wrong_from test (n + 1) (k + 1) ns else Some k

-- The place, from 0, of the first coarse line that is wrong: its letter does not exist, is not coarse, is named by no triple, or is not greater
-- than that of the line before.
abbrev pub first_wrong : Graph → List ℕ → Content → Option ℕ
first_wrong g coarse a = first_wrong_from (is_told g a.triples) 0 0 coarse

-- the letter is none of these
abbrev pub is_missing : List ℕ → ℕ → Bool
is_missing coarse n = not (list_any (nat_eq n) coarse)

-- the letter is coarse, and its line is missing
abbrev pub lacks_line : Graph → List ℕ → Option ℕ → Bool
lacks_line g coarse None = false
lacks_line g coarse (Some n) = mark_at g n && is_missing coarse n

-- the place, from 0, of the first triple whose letter is coarse and has no line
abbrev pub first_missing : Graph → List ℕ → Content → Option ℕ
first_missing g coarse a = position_from (λ t. lacks_line g coarse (letter_named t)) 0 a.triples
