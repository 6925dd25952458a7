-- The texts of a shelf in memory, and the one that a name begins.
use Rattle.std.proofs.Common.{◌≡◌, ℕ, zero, suc, ◌+◌, ◌<◌, ◌≤◌, ◌^◌, List, [], ◌∷◌, length, Option, None, Some, Bool, true, false, not, cond, if◌then◌else◌, nat_lt, MatchOption, position, string_bytes, bytes_eq, String, Vec, refl, sym, ◌∙◌, ap, arith}
use Rattle.std.specs.declared.alloc.Global.{Global}
use Rattle.std.specs.List.{position_or_len}
use Rattle.std.proofs.Math.Numerals.{one-add}
use Rattle.std.proofs.lemmas.Bool.{cond_both, ltb-true, ltb-false}
use Rattle.outer_io.specs.Texts.{text_named}
use Rattle.outer_io.specs.Ties.MemShelf.{shown_texts, text_at}

-- a text in memory has less than 2^63 bytes
pub length-text_at : (texts : List (String Global × Vec ℕ Global)) (i : ℕ) → length (text_at (shown_texts texts) i) < 2 ^ 63
length-text_at [] i = omega arith
length-text_at (text ∷ texts) zero = omega (arith, text.1.ok.0, text.1.ok.1, text.1.small)
length-text_at (text ∷ texts) (suc i) = length-text_at texts i

-- the text has that name
abbrev pub has_name : List ℕ → String Global × Vec ℕ Global → Bool
has_name name text = bytes_eq (string_bytes text.0) name

-- the text that is named, if the first has the name or not, where k is the place of the name among the others
found_more : (is_first : Bool) (text : List ℕ × List ℕ) (texts : List (List ℕ × List ℕ)) (named : Option (List ℕ)) (k n : ℕ)
    → cond (not is_first) (1 + k) 0 < suc n → (k < n → named ≡ Some (text_at texts k))
    → (if is_first then Some text.1 else named) ≡ Some (text_at (text ∷ texts) (cond (not is_first) (1 + k) 0))
found_more true text texts named k n within others = refl
found_more false text texts named k n within others =
    others (omega arith) ∙ ap (λ i. Some (text_at (text ∷ texts) i)) (sym (one-add k))

found : (name : List ℕ) (texts : List (String Global × Vec ℕ Global)) → position_or_len (has_name name) texts < length texts
    → text_named name (shown_texts texts) ≡ Some (text_at (shown_texts texts) (position_or_len (has_name name) texts))
found name [] within = absurd (omega arith)
found name (text ∷ texts) within =
    found_more (has_name name text) _ (shown_texts texts) _ _ (length texts) within (found name texts)

missing_more : (is_first : Bool) (text : List ℕ) (named : Option (List ℕ)) (k n : ℕ)
    → suc n ≤ cond (not is_first) (1 + k) 0 → (n ≤ k → named ≡ None) → (if is_first then Some text else named) ≡ None
missing_more true text named k n past others = absurd (omega arith)
missing_more false text named k n past others = others (omega arith)

missing : (name : List ℕ) (texts : List (String Global × Vec ℕ Global)) → length texts ≤ position_or_len (has_name name) texts
    → text_named name (shown_texts texts) ≡ None
missing name [] past = refl
missing name (text ∷ texts) past = missing_more (has_name name text) _ _ _ (length texts) past (missing name texts)

-- what the place of the first text of that name says of the text that is named
text_named-position : (name : List ℕ) (texts : List (String Global × Vec ℕ Global)) → MatchOption (position (has_name name) texts)
    (text_named name (shown_texts texts) ≡ None)
    (λ i. text_named name (shown_texts texts) ≡ Some (text_at (shown_texts texts) i))
text_named-position name texts =
    let k = position_or_len (has_name name) texts in
    cond_both (nat_lt k (length texts)) (Some k) None
    (λ place. MatchOption place (text_named name (shown_texts texts) ≡ None)
    (λ i. text_named name (shown_texts texts) ≡ Some (text_at (shown_texts texts) i)))
    (λ below. found name texts (ltb-true k (length texts) below))
    (λ above. missing name texts (ltb-false k (length texts) above))

pub text_named-Some : (name : List ℕ) (texts : List (String Global × Vec ℕ Global)) (i : ℕ)
    → Some i ≡ position (has_name name) texts → text_named name (shown_texts texts) ≡ Some (text_at (shown_texts texts) i)
text_named-Some name texts i is = rw (← is) at (text_named-position name texts)

pub text_named-None : (name : List ℕ) (texts : List (String Global × Vec ℕ Global))
    → None ≡ position (has_name name) texts → text_named name (shown_texts texts) ≡ None
text_named-None name texts is = rw (← is) at (text_named-position name texts)
