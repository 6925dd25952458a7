-- The text of a lasso, a line each: `lasso 1`, `stem` and its letters, `loop` and one or more letters, `end`.
use Rattle.std.specs.Prelude.{◌≢◌, ℕ, List, [], ◌∷◌, ◌++◌, codes}
use Rattle.std.specs.List.{concat, flat_map}
use Rattle.std.specs.Fmt.{decimal}
pub use Rattle.proof_form.specs.Annotations.{AreShort}
use Rattle.rank_lasso.specs.LassoRanks.Lassos.{PlainLasso}

-- letters by their numbers, a space before each
abbrev pub letters_text : List ℕ → List ℕ
letters_text ns = flat_map (λ n. 32 ∷ decimal n) ns

-- a word and letters
abbrev pub letters_line : List ℕ → List ℕ → List ℕ
letters_line word ns = word ++ (letters_text ns ++ 10 ∷ [])

-- its letters have 32 bits, and the loop has one or more
pub record IsWritable (l : PlainLasso) : Type 0 where
  pub stem : AreShort l.stem
  pub loop : AreShort l.loop
  pub turns : l.loop ≢ []

-- the lines of the stem and of the loop
abbrev pub way_lines : PlainLasso → List (List ℕ)
way_lines l = letters_line (codes "stem") l.stem ∷ letters_line (codes "loop") l.loop ∷ []

abbrev pub lasso_lines : PlainLasso → List (List ℕ)
lasso_lines l = codes "lasso 1\n" ∷ (way_lines l ++ codes "end\n" ∷ [])

abbrev pub lasso_text : PlainLasso → List ℕ
lasso_text l = concat (lasso_lines l)
