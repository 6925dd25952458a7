-- Notes behind notes.
use Rattle.std.proofs.Common.{◌≡◌, ℕ, zero, suc, ◌+◌, ◌<◌, ◌≤◌, Bool, true, false, List, [], ◌∷◌, ◌++◌, drop, length, get_or, refl, ap, sym, ◌∙◌, arith, append_assoc, drop-cons}
use Rattle.std.specs.Prelude.{codes}
use Rattle.boogie_tree.specs.Printing.{continued}
use Rattle.explain_top.specs.declared.run_story.lines.Line.{Line}
use Rattle.explain_top.specs.RunStory.Lines.{remarked, has_notes, IsNoted, Adds, separator}

right_unit : (xs : List ℕ) → xs ≡ xs ++ []
right_unit [] = refl
right_unit (x ∷ xs) = ap (λ (ys : List ℕ). x ∷ ys) (right_unit xs)

continued_both : (xs ys : List (List ℕ)) → continued (xs ++ ys) ≡ continued xs ++ continued ys
continued_both [] ys = refl
continued_both (x ∷ xs) ys =
    ap (λ (t : List ℕ). (codes ", " ++ x) ++ t) (continued_both xs ys)
    ∙ sym (append_assoc (codes ", " ++ x) (continued xs) (continued ys))

remarked_both : (noted : Bool) (xs ys : List (List ℕ)) → remarked noted (xs ++ ys) ≡ remarked noted xs ++ remarked (has_notes noted xs) ys
remarked_both true [] ys = refl
remarked_both true (x ∷ xs) ys = continued_both (x ∷ xs) ys
remarked_both false [] ys = refl
remarked_both false (x ∷ xs) ys =
    ap (λ (t : List ℕ). codes "  // " ++ (x ++ t)) (continued_both xs ys)
    ∙ ap (λ (t : List ℕ). codes "  // " ++ t) (sym (append_assoc x (continued xs) (continued ys)))
    ∙ sym (append_assoc (codes "  // ") (x ++ continued xs) (continued ys))

noted_both : (noted : Bool) (xs ys : List (List ℕ)) → has_notes (has_notes noted xs) ys ≡ has_notes noted (xs ++ ys)
noted_both noted [] ys = refl
noted_both noted (x ∷ xs) [] = refl
noted_both noted (x ∷ xs) (y ∷ ys) = refl

no_remark : (noted : Bool) → [] ≡ remarked noted []
no_remark true = refl
no_remark false = refl

-- no note
pub adds_none : (a : Line) → Adds a [] a
adds_none a = record { text = right_unit a.text.items ∙ ap (λ (t : List ℕ). a.text.items ++ t) (no_remark a.noted); noted = refl }

-- some notes, and then others
pub adds_both : (text : List ℕ) (noted : Bool) (b c : Line) (xs ys : List (List ℕ)) → IsNoted text noted xs b → Adds b ys c → IsNoted text noted (xs ++ ys) c
adds_both text noted b c xs ys p q = record {
  text =
      q.text
      ∙ (λ i. p.text i ++ remarked (p.noted i) ys)
      ∙ append_assoc text (remarked noted xs) (remarked (has_notes noted xs) ys)
      ∙ ap (λ (t : List ℕ). text ++ t) (sym (remarked_both noted xs ys));
  noted = q.noted ∙ ap (λ (n : Bool). has_notes n ys) p.noted ∙ noted_both noted xs ys;
}

one : (noted : Bool) (n : List ℕ) → separator noted ++ n ≡ remarked noted (n ∷ [])
one true n = right_unit (codes ", " ++ n)
one false n = ap (λ (t : List ℕ). codes "  // " ++ t) (right_unit n)

-- one note behind what stands before it
pub adds_one : (a c : Line) (text : List ℕ) (n : List ℕ) → text ≡ a.text.items ++ separator a.noted → c.text.items ≡ text ++ n → c.noted ≡ true → Adds a (n ∷ []) c
adds_one a c text n p q s = record {
  text = q ∙ ap (λ (t : List ℕ). t ++ n) p ∙ append_assoc a.text.items (separator a.noted) n ∙ ap (λ (t : List ℕ). a.text.items ++ t) (one a.noted n);
  noted = s;
}

-- ---- one note after another

-- With these notes more the line is this text.
pub record Leads (line : Line) (ns : List (List ℕ)) (whole : List ℕ) (has : Bool) : Type 0 where
  pub text : line.text.items ++ remarked line.noted ns ≡ whole
  pub noted : has_notes line.noted ns ≡ has

pub leads_step : (a b : Line) (n : List ℕ) (ms ns : List (List ℕ)) (whole : List ℕ) (has : Bool) → ms ≡ n ∷ ns → Leads a ms whole has → Adds a (n ∷ []) b → Leads b ns whole has
leads_step a b n ms ns whole has split h one = record {
  text =
      (λ i. one.text i ++ remarked (one.noted i) ns)
      ∙ append_assoc a.text.items (remarked a.noted (n ∷ [])) (remarked true ns)
      ∙ ap (λ (t : List ℕ). a.text.items ++ t) (sym (remarked_both a.noted (n ∷ []) ns))
      ∙ ap (λ (ks : List (List ℕ)). a.text.items ++ remarked a.noted ks) (sym split)
      ∙ h.text;
  noted =
      ap (λ (k : Bool). has_notes k ns) one.noted ∙ noted_both a.noted (n ∷ []) ns ∙ ap (has_notes a.noted) (sym split) ∙ h.noted;
}

pub leads_end : (a b : Line) (ms ns : List (List ℕ)) → ms ≡ [] → Leads b ms (a.text.items ++ remarked a.noted ns) (has_notes a.noted ns) → Adds a ns b
leads_end a b ms ns none h =
    let here = adds_none b in
    record {
      text = here.text ∙ ap (λ (ks : List (List ℕ)). b.text.items ++ remarked b.noted ks) (sym none) ∙ h.text;
      noted = ap (has_notes b.noted) (sym none) ∙ h.noted;
    }

-- ---- members of lists

-- the next member, and those behind it
pub next_split : {A : Type 0} (xs : List A) (i : ℕ) (x : A) → i < length xs → x ≡ get_or xs i x → drop i xs ≡ x ∷ drop (i + 1) xs
next_split {A = A} xs i x h e =
    let more : suc i ≡ i + 1 = omega arith in
    drop-cons xs i x h ∙ ap (λ (y : A). y ∷ drop (suc i) xs) (sym e) ∙ ap (λ (n : ℕ). x ∷ drop n xs) more

pub none_behind : {A : Type 0} (xs : List A) (i : ℕ) → length xs ≤ i → drop i xs ≡ []
none_behind [] zero h = refl
none_behind [] (suc i) h = refl
none_behind (x ∷ xs) zero h = absurd (omega arith)
none_behind (x ∷ xs) (suc i) h = none_behind xs i (omega arith)

-- ---- all notes of a list, by one for each member

pub notes_next : {A : Type 0} (told : List A → List (List ℕ)) (n : List ℕ) (xs : List A) (i : ℕ) (x : A) (a b : Line) (whole : List ℕ) (has : Bool) →
    told (x ∷ drop (i + 1) xs) ≡ n ∷ told (drop (i + 1) xs) → i < length xs → x ≡ get_or xs i x → Leads a (told (drop i xs)) whole has → Adds a (n ∷ []) b →
    Leads b (told (drop (i + 1) xs)) whole has
notes_next told n xs i x a b whole has one h e leads more =
    leads_step a b n (told (drop i xs)) (told (drop (i + 1) xs)) whole has (ap told (next_split xs i x h e) ∙ one) leads more

pub notes_end : {A : Type 0} (told : List A → List (List ℕ)) (xs : List A) (i : ℕ) (a b : Line) → told [] ≡ [] → length xs ≤ i →
    Leads b (told (drop i xs)) (a.text.items ++ remarked a.noted (told xs)) (has_notes a.noted (told xs)) → Adds a (told xs) b
notes_end told xs i a b none h leads = leads_end a b (told (drop i xs)) (told xs) (ap told (none_behind xs i h) ∙ none) leads
