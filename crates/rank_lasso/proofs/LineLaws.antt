-- Lines at the front of a text, by their kinds.
use Rattle.std.proofs.Common.{◌≡◌, ◌≢◌, ℕ, Bool, true, nat_eq, length, List, [], ◌∷◌, ◌++◌, Option, Some, None, refl, sym, ap, ◌∙◌, subst, arith}
use Rattle.std.proofs.lemmas.Bool.{eqb-true}
use Rattle.rank_lasso.specs.LassoText.{letters_text}
use Rattle.rank_lasso.specs.Lines.{HasNo, line_text, Spells, ReadsAll, LineKind, AreSomeShort, IsContent, Lacks}
use Rattle.rank_lasso.proofs.Cuts.{same_line}
use Rattle.rank_lasso.proofs.Contents.{content_has_no_end}

-- no line with the word is in front
pub no_line : (k : LineKind) (text : List ℕ) → ((content rest : List ℕ) → HasNo 10 content → text ≢ line_text k.word content ++ rest) → Lacks k text
no_line k text none content rest h = none content rest (content_has_no_end k.content content h)

-- one is, and what stands in it is none of the kind
pub other_content : (k : LineKind) (text content rest : List ℕ) → HasNo 10 content → text ≡ line_text k.word content ++ rest → (IsContent k.content content → ⊥) → Lacks k text
other_content k text content rest plain e none other more h f =
    none (subst (IsContent k.content) (sym (same_line k.word content other rest more plain (content_has_no_end k.content other h) (sym e ∙ f)).0) h)

-- bytes of which nothing was read
pub unread : {V A : Type 0} (view : V → A) (P : A → Type 0) (text : A → List ℕ) (bytes : List ℕ) (o : Option V) → o ≡ None → ReadsAll view P text bytes o → Spells P text bytes → ⊥
unread view P text bytes None e h = h
unread view P text bytes (Some v) e h = absurd (let n : ⊥ = cc in n)

-- no letter stands there
pub no_letters : (bytes : List ℕ) → bytes ≡ [] → Spells AreSomeShort letters_text bytes → ⊥
no_letters bytes e h = by_letters h.0 h.1.1 (sym e ∙ h.2)
  where
    by_letters : (ns : List ℕ) → ns ≢ [] → [] ≡ letters_text ns → ⊥
    by_letters [] some e = some refl
    by_letters (n ∷ ns) some e = let no : ⊥ = cc in no

-- bytes of which something was read
pub read_as : {V A : Type 0} (view : V → A) (P : A → Type 0) (text : A → List ℕ) (bytes : List ℕ) (o : Option V) (v : V) → o ≡ Some v → ReadsAll view P text bytes o →
    P (view v) × (bytes ≡ text (view v))
read_as view P text bytes None v e h = absurd (let n : ⊥ = cc in n)
read_as {V = V} view P text bytes (Some w) v e h =
    let same : w ≡ v = cc in subst (λ (x : V). P (view x) × (bytes ≡ text (view x))) same h

pub no_members : {A : Type 0} (xs : List A) → length xs ≡ 0 → xs ≡ []
no_members [] e = refl
no_members (x ∷ xs) e = absurd (omega arith)

-- nothing stands behind the word
pub bare_read : (word text content rest : List ℕ) (b : Bool) → b ≡ nat_eq (length content) 0 → b ≡ true → text ≡ line_text word content ++ rest → text ≡ line_text word [] ++ rest
bare_read word text content rest b e f is = is ∙ ap (λ c. line_text word c ++ rest) (no_members content (eqb-true (length content) 0 (sym e ∙ f)))
