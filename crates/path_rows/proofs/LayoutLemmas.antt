-- How frames are laid out: the constants and globals, then the old columns, then the locals.
use Rattle.std.proofs.Common.{◌≡◌, ◌∙◌, ℕ, suc, ◌≤◌, Bool, true, false, List, [], ◌∷◌, ◌++◌, length, refl, sym, ap, arith, length-append, append-nil}
use Rattle.std.specs.Prelude.{filter, not}
use Rattle.std.proofs.lemmas.List.{length-map}
use Rattle.std.proofs.lemmas.List.Elements.{filter-append}
use Rattle.boogie_tree.specs.declared.tree.VarInfo.{VarInfo}
use Rattle.boogie_tree.specs.declared.tree.Column.TheVariants.{Old, Local}
use Rattle.letter_acts.specs.Frames.{Columns, IsFrame, added, globals_from, old_columns, locals_from, is_local, globals_of, variables_of, olds_from, olds_of}
use Rattle.letter_acts.proofs.FrameLemmas.{global_count, olds_are, olds_of_variables}
use Rattle.path_rows.specs.Versions.{local_columns, old_part}
use Rattle.letter_acts.specs.FrameRows.Frames.{is_old}

local_globals : (n : ℕ) (vs : List VarInfo) → filter is_local (globals_from n vs) ≡ []
local_globals n [] = refl
local_globals n (v ∷ vs) = local_globals (suc n) vs

old_globals : (n : ℕ) (vs : List VarInfo) → filter is_old (globals_from n vs) ≡ []
old_globals n [] = refl
old_globals n (v ∷ vs) = old_globals (suc n) vs

old_locals : (n : ℕ) (vs : List VarInfo) → filter is_old (locals_from n vs) ≡ []
old_locals n [] = refl
old_locals n (v ∷ vs) = old_locals (suc n) vs

local_locals : (n : ℕ) (vs : List VarInfo) → filter is_local (locals_from n vs) ≡ locals_from n vs
local_locals n [] = refl
local_locals n (v ∷ vs) = ap (λ (l : Columns). (Local n, v) ∷ l) (local_locals (suc n) vs)

local_olds : (n : ℕ) (vs : List VarInfo) → filter is_local (old_columns n vs) ≡ []
local_olds n [] = refl
local_olds n (v ∷ vs) = by_test (not v.constant) (local_olds (suc n) vs)
  where
    by_test : (b : Bool) → filter is_local (old_columns (suc n) vs) ≡ [] → filter is_local (added b (Old n, v) (old_columns (suc n) vs)) ≡ []
    by_test true h = h
    by_test false h = h

old_olds : (n : ℕ) (vs : List VarInfo) → filter is_old (old_columns n vs) ≡ old_columns n vs
old_olds n [] = refl
old_olds n (v ∷ vs) = by_test (not v.constant) (old_olds (suc n) vs)
  where
    by_test : (b : Bool) → filter is_old (old_columns (suc n) vs) ≡ old_columns (suc n) vs →
        filter is_old (added b (Old n, v) (old_columns (suc n) vs)) ≡ added b (Old n, v) (old_columns (suc n) vs)
    by_test true h = ap (λ (l : Columns). (Old n, v) ∷ l) h
    by_test false h = h

pub length-globals_from : (n : ℕ) (vs : List VarInfo) → length (globals_from n vs) ≡ length vs
length-globals_from n [] = refl
length-globals_from n (v ∷ vs) = ap suc (length-globals_from (suc n) vs)

length_next : (b : Bool) (n k : ℕ) (v : VarInfo) (rest : Columns) → length (olds_from n rest) ≡ length rest → length (olds_from (suc n) rest) ≡ length rest →
    length (olds_from n (added b (Old k, v) rest)) ≡ length (added b (Old k, v) rest)
length_next true n k v rest h g = ap suc g
length_next false n k v rest h g = h

length-olds : (n k : ℕ) (vs : List VarInfo) → length (olds_from n (old_columns k vs)) ≡ length (old_columns k vs)
length-olds n k [] = refl
length-olds n k (v ∷ vs) = length_next (not v.constant) n k v (old_columns (suc k) vs) (length-olds n (suc k) vs) (length-olds (suc n) (suc k) vs)

-- a frame in its three parts
pub record LaidOut (globals : List VarInfo) (frame : Columns) : Type 0 where
  pub parts : frame ≡ globals_from 0 globals ++ (old_part frame ++ local_columns frame)
  pub olds : old_part frame ≡ old_columns 0 globals
  pub global_count : length (globals_of frame) ≡ length (globals_from 0 globals)
  pub variable_count : length (variables_of frame) ≡ length (old_part frame)
  pub long : length (globals_from 0 globals) ≤ length frame

pub laid_out : (globals : List VarInfo) (frame : Columns) → IsFrame globals frame → LaidOut globals frame
laid_out globals frame f =
    let front : Columns = globals_from 0 globals in
    let olds : Columns = old_columns 0 globals in
    let locals : Columns = locals_from 0 f.locals in
    let l : local_columns frame ≡ locals =
    ap (filter is_local) f.columns ∙ filter-append is_local front (olds ++ locals) ∙
    ap (λ (xs : Columns). xs ++ filter is_local (olds ++ locals)) (local_globals 0 globals) ∙ filter-append is_local olds locals ∙
    ap (λ (xs : Columns). xs ++ filter is_local locals) (local_olds 0 globals) ∙ local_locals 0 f.locals in
    let o : old_part frame ≡ olds =
    ap (filter is_old) f.columns ∙ filter-append is_old front (olds ++ locals) ∙
    ap (λ (xs : Columns). xs ++ filter is_old (olds ++ locals)) (old_globals 0 globals) ∙ filter-append is_old olds locals ∙
    ap (λ (xs : Columns). filter is_old olds ++ xs) (old_locals 0 f.locals) ∙ append-nil (filter is_old olds) ∙ old_olds 0 globals in
    let a = ap length f.columns in
    let b = length-append front (olds ++ locals) in
    record {
      parts = f.columns ∙ ap (λ (xs : Columns). front ++ (xs ++ locals)) (sym o) ∙ ap (λ (xs : Columns). front ++ (old_part frame ++ xs)) (sym l);
      olds = o;
      global_count = global_count globals frame f ∙ sym (length-globals_from 0 globals);
      variable_count = ap length (sym (olds_of_variables globals frame f)) ∙ length-map (olds_of frame) (λ (o : ℕ × ℕ). o.1) ∙
          ap length (olds_are globals frame f) ∙ length-olds (length globals) 0 globals ∙ ap length (sym o);
      long = omega (arith, a, b);
    }
