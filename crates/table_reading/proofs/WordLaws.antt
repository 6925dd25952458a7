-- What is collected of the words of a text.
use Rattle.std.proofs.Common.{◌≡◌, ℕ, List, [], ◌∷◌, Option, None, Some, subst, sym}
use Rattle.std.specs.Prelude.{⊤}
use Rattle.std.specs.Str.{NoCharPasses}
use Rattle.std.specs.Char.{is_not_whitespace}
use Rattle.std.specs.Str.Iter.{split_whitespace_rest, split_whitespace_steps}
use Rattle.std.specs.Iterator.{Yields, DrainsIf}
use Rattle.std.specs.Iterator.Adapters.{map_source, map_callee, map_steps}
use Rattle.std.specs.declared.iter.Map.{Map}
use Rattle.table_reading.specs.Words.{AreWords, ArePaired, BeginsWith}
use denote.Ref.{Bor}
use denote.Param.Members.{Mut, Called}

module _ {S F N : Type 0} (rest : S → List ℕ) (steps : S → Option (Bor (List ℕ)) → S → Type 0) (g : Mut F (Bor (List ℕ) × Unit {0}) N) (P : List ℕ → N → Type 0)
    (none : (s t : S) → steps s None t → NoCharPasses is_not_whitespace (rest s)) (some : (s : S) (x : Bor (List ℕ)) (t : S) → steps s (Some x) t → BeginsWith (rest s) x.now (rest t))
    (called : (f : F) (x : Bor (List ℕ)) (y : N) (q : F) → Called g f (x, tt) y q → P x.now y) where
  words_are : (ns : List N) (s t u : Map S F) → Yields (map_steps steps g) s ns t → map_steps steps g t None u → (ws : List (List ℕ)) × AreWords (rest (map_source s)) ws × ArePaired P ws ns
  words_are [] s t u y e = ([], subst (λ (m : Map S F). NoCharPasses is_not_whitespace (rest (map_source m))) (sym y) (none (map_source t) (map_source u) e.0), tt)
  words_are (n ∷ ns) s t u y e =
      let x : Bor (List ℕ) = y.1.0 in
      let next = words_are ns y.0 t u y.2 e in
      (x.now ∷ next.0, (rest (map_source y.0), some (map_source s) x (map_source y.0) y.1.1, next.1), (called (map_callee s) x n (map_callee y.0) y.1.2, next.2))

  pub words_collected : (text : List ℕ) (s : Map S F) (ns : List N) → rest (map_source s) ≡ text → DrainsIf (map_steps steps g) ⊤ s ns → (ws : List (List ℕ)) × AreWords text ws × ArePaired P ws ns
  words_collected text s ns e d =
      let found = words_are ns s d.0 (d.2 tt).0 d.1 (d.2 tt).1 in
      (found.0, subst (λ (bs : List ℕ). AreWords bs found.0) e found.1, found.2)

pub no_word : (s t : _) → split_whitespace_steps s None t → NoCharPasses is_not_whitespace (split_whitespace_rest s)
no_word s t k = k.1

pub first_word : (s : _) (x : Bor (List ℕ)) (t : _) → split_whitespace_steps s (Some x) t → BeginsWith (split_whitespace_rest s) x.now (split_whitespace_rest t)
first_word s x t k = record { gap = k.0; whole = k.1; some = k.2; blank = k.3; dark = k.4; ends = k.5 }
