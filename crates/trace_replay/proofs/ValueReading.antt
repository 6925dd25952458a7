-- The values read so far.
use Rattle.std.proofs.Common.{◌≡◌, ◌≢◌, ℕ, ◌+◌, ◌<◌, ℤ, List, [], ◌∷◌, ◌++◌, map, length, inl, inr, refl, sym, ap, ◌∙◌, subst, arith, append_assoc}
use Rattle.std.specs.List.{AllByRecursion, concat}
use Rattle.std.proofs.lemmas.List.{append-nil, map-append, length-map}
use Rattle.boogie_run.specs.declared.types.Choice.{Choice}
use Rattle.math_facts.specs.Fits.{Fits}
use Rattle.trace_replay.specs.FailureText.{value_line, numbers}
use Rattle.trace_replay.specs.Ties.Pieces.{ValuesEnd}

-- The text begins with these values, and goes on with the rest.
pub record AreRead (text : List ℕ) (choices : List Choice) (rest : List ℕ) : Type 0 where
  pub fit : AllByRecursion Fits (numbers choices)
  pub spelled : text ≡ concat (map value_line (numbers choices)) ++ rest

pub none_read : (text : List ℕ) → AreRead text [] text
none_read text = record { fit = tt; spelled = refl }

one_more_fits : (zs : List ℤ) (z : ℤ) → AllByRecursion Fits zs → Fits z → AllByRecursion Fits (zs ++ z ∷ [])
one_more_fits [] z h k = (k, tt)
one_more_fits (y ∷ zs) z h k = (h.0, one_more_fits zs z h.1 k)

pub one_more_line : (ls : List (List ℕ)) (l : List ℕ) → concat (ls ++ l ∷ []) ≡ concat ls ++ l
one_more_line [] l = append-nil l
one_more_line (k ∷ ls) l = ap (λ x. k ++ x) (one_more_line ls l) ∙ sym (append_assoc k (concat ls) l)

pub one_more_read : (text : List ℕ) (choices : List Choice) (rest : List ℕ) (c : Choice) (next : List ℕ) → AreRead text choices rest → Fits c.0 × (rest ≡ value_line c.0 ++ next) → AreRead text (choices ++ c ∷ []) next
one_more_read text choices rest c next h read =
    let zs = numbers choices in
    let more : numbers (choices ++ c ∷ []) ≡ zs ++ c.0 ∷ [] = map-append (λ (x : Choice). x.0) choices (c ∷ []) in
    let lines : map value_line (zs ++ c.0 ∷ []) ≡ map value_line zs ++ value_line c.0 ∷ [] = map-append value_line zs (c.0 ∷ []) in
    record {
      fit = subst (AllByRecursion Fits) (sym more) (one_more_fits zs c.0 h.fit read.0);
      spelled =
          h.spelled
          ∙ ap (λ r. concat (map value_line zs) ++ r) read.1
          ∙ sym (append_assoc (concat (map value_line zs)) (value_line c.0) next)
          ∙ ap (λ r. r ++ next) (sym (one_more_line (map value_line zs) (value_line c.0)) ∙ ap concat (sym lines) ∙ ap (λ x. concat (map value_line x)) (sym more));
    }

-- no value stands where one is wanted
pub value_missing : (count i line : ℕ) (text : List ℕ) (choices : List Choice) (rest : List ℕ) → AreRead text choices rest → length choices ≡ i → i < count → line ≡ i + 6 → ((c : Choice) (more : List ℕ) → Fits c.0 → rest ≢ value_line c.0 ++ more) → ValuesEnd count text line
value_missing count i line text choices rest h many less at none = record {
  read = numbers choices;
  rest = rest;
  fit = h.fit;
  spelled = h.spelled;
  line_is = omega (arith, at, many, length-map choices (λ (c : Choice). c.0));
  end = inl (omega (arith, less, many, length-map choices (λ (c : Choice). c.0)), λ z more fits. none (record { 0 = z }) more fits);
}

-- the text goes on behind the last value
pub line_too_many : (count line : ℕ) (text : List ℕ) (choices : List Choice) (rest : List ℕ) → AreRead text choices rest → length choices ≡ count → line ≡ count + 6 → rest ≢ [] → ValuesEnd count text line
line_too_many count line text choices rest h many at some = record {
  read = numbers choices;
  rest = rest;
  fit = h.fit;
  spelled = h.spelled;
  line_is = omega (arith, at, many, length-map choices (λ (c : Choice). c.0));
  end = inr (length-map choices (λ (c : Choice). c.0) ∙ many, some);
}

pub all_read : (text : List ℕ) (choices : List Choice) (rest : List ℕ) → AreRead text choices rest → rest ≡ [] → text ≡ concat (map value_line (numbers choices))
all_read text choices rest h none = h.spelled ∙ ap (λ r. concat (map value_line (numbers choices)) ++ r) none ∙ append-nil (concat (map value_line (numbers choices)))
