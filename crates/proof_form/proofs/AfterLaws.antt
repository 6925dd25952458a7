-- What stands after a text.
use Rattle.std.proofs.Common.{◌≡◌, ◌≢◌, ℕ, ◌+◌, Bool, true, false, cond, ◌&&◌, nat_eq, List, [], ◌∷◌, ◌++◌, length, take, drop, Option, Some, None, refl, sym, ap, ◌∙◌, MatchOption}
use Rattle.std.specs.Option.{option_copied}
use Rattle.std.specs.Cmp.Lexicographic.{pointwise}
use Rattle.std.specs.Borrow.{Bor}
use Rattle.std.specs.Str.{bytes_eq}
use Rattle.std.proofs.lemmas.Slice.Eq.{bytes_eq-Decides}
use Rattle.std.proofs.lemmas.Bool.{eqb-true, eq-eqb, false≢true}
use Rattle.proof_form.specs.declared.refusal.Refusal.{Refusal}
use Rattle.proof_form.specs.declared.refusal.Refusal.TheVariants.{Form, Memory}
use Rattle.proof_form.specs.Outcomes.{Refuses, ◌>>=◌}
use Rattle.proof_form.specs.Reading.{after}

-- the parts of a reading that did not fail
pub bind_some : {A B : Type 0} (o : Option A) (f : A → Option B) (y : B) → (o >>= f) ≡ Some y → (x : A) × (o ≡ Some x) × (f x ≡ Some y)
bind_some None f y h = absurd (let n : ⊥ = cc in n)
bind_some (Some x) f y h = (x, refl, h)

-- by the test that std's `strip_prefix` makes
pub after_tested : (text bs : List ℕ) → after text bs ≡ cond (pointwise nat_eq (take (length text) bs) text) (Some (drop (length text) bs)) None
after_tested [] bs = refl
after_tested (c ∷ text) [] = refl
after_tested (c ∷ text) (b ∷ bs) = elim (nat_eq b c) as (λ t. cond t (after text bs) None ≡ cond (t && pointwise nat_eq (take (length text) bs) text) (Some (drop (length text) bs)) None) [ true ↦ after_tested text bs | false ↦ refl ]

front_spells : (c b : ℕ) (text bs rest : List ℕ) (t : Bool) → nat_eq b c ≡ t → cond t (after text bs) None ≡ Some rest → (after text bs ≡ Some rest → bs ≡ text ++ rest) → b ∷ bs ≡ c ∷ (text ++ rest)
front_spells c b text bs rest true e k more = let same = eqb-true b c e in let m = more k in cc
front_spells c b text bs rest false e k more = absurd (let n : ⊥ = cc in n)

-- what is read is spelled so
pub after_spells : (text bs rest : List ℕ) → after text bs ≡ Some rest → bs ≡ text ++ rest
after_spells [] bs rest h = cc
after_spells (c ∷ text) [] rest h = absurd (let n : ⊥ = cc in n)
after_spells (c ∷ text) (b ∷ bs) rest h = front_spells c b text bs rest (nat_eq b c) refl h (after_spells text bs rest)

-- what is spelled so is read
pub after_reads : (text rest : List ℕ) → after text (text ++ rest) ≡ Some rest
after_reads [] rest = refl
after_reads (c ∷ text) rest = rw (eq-eqb c c refl) (after_reads text rest)

-- by what `strip_prefix` ensures
pub stripped : (text bs : List ℕ) (o : Option (Bor (List ℕ)))
    → MatchOption o (pointwise nat_eq (take (length text) bs) text ≡ false) (λ x. (pointwise nat_eq (take (length text) bs) text ≡ true) × (x.now ≡ drop (length text) bs) × (length x.now + length text ≡ length bs))
    → option_copied o ≡ after text bs
stripped text bs None h = rw (after_tested text bs, h) refl
stripped text bs (Some x) h = rw (after_tested text bs, h.0) (ap Some h.1)

-- a refusal handed on
pub refused : {A B : Type 0} (e : Refusal) (read : Option A) (whole : Option B) → (read ≡ None → whole ≡ None) → Refuses e read → Refuses e whole
refused Form read whole f h = f h
refused Memory read whole f h = tt

-- by what `==` ensures of two texts
pub texts_agree : (xs ys zs : List ℕ) → true ≡ bytes_eq xs ys → ys ≡ zs → xs ≡ zs
texts_agree xs ys zs h e = (bytes_eq-Decides xs ys).0 (sym h) ∙ e

pub texts_differ : (xs ys zs : List ℕ) → false ≡ bytes_eq xs ys → ys ≡ zs → xs ≢ zs
texts_differ xs ys zs h e same = false≢true (h ∙ (bytes_eq-Decides xs ys).1 (same ∙ sym e))

-- a refusal of the form
pub refused_form : {A : Type 0} (e : Refusal) (read : Option A) → e ≡ Form → Refuses e read → read ≡ None
refused_form Form read h k = k
refused_form Memory read h k = absurd (let no : ⊥ = cc in no)
