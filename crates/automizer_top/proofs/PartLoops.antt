-- Loops over parts: how far they have come, one turn more, and their ends.
use Rattle.std.proofs.Common.{◌≡◌, ◌≢◌, ℕ, zero, suc, ◌+◌, ◌<◌, ◌≤◌, List, [], ◌∷◌, ◌++◌, map, length, take, drop, get_or, true, false, ◌==◌, Option, None, Some, ap, refl, sym, ◌∙◌, subst, arith, slice_get, append-nil, append_assoc}
use Rattle.std.specs.Option.{option_or, option_map}
use Rattle.std.specs.Borrow.{Bor}
use Rattle.std.proofs.lemmas.Option.{none-some, same_Some, slice_get_read}
use Rattle.std.proofs.lemmas.List.{length-map}
use Rattle.std.proofs.lemmas.Bool.{eqb-true}
use Rattle.letter_acts.specs.Invariant.{Graph}
use Rattle.lowered_graph.specs.Lowered.{lowered}
use Rattle.modular_cut.specs.declared.cutting.Part.{Part}
use Rattle.modular_cut.specs.Parts.{PlainPart}
use Rattle.modular_cut.specs.View.{plain_part}
use Rattle.race_core.specs.Races.{Race}
use Rattle.itp_automaton.specs.Certified.{Certificate}
use Rattle.race_rounds.specs.declared.limits.Limits.{Limits}
use Rattle.automizer_top.specs.declared.parts.Left.{Left}
use Rattle.automizer_top.specs.PartTexts.{modular_line, part_line, text_behind}
use Rattle.text_reports.specs.ReportTexts.{Answer, accepted_answer, syntax_answer}
use Rattle.automizer_top.specs.Report.{RefusesLowering, ReportsVerdict}
use Rattle.text_reports.specs.Answers.{IsGraphOf, HasNoErrorWord}
use Rattle.automizer_top.specs.Parts.{AreSafe, part_texts, races_of, ReportsParts, all_safe, one_is_not, ChecksEnd, ChecksParts, ReportsPartProofs, of_part_proofs, part_in}
use Rattle.automizer_top.specs.Ties.PartViews.{AreGraphsOf, HaveNoErrorWord, RefusesUnlowered, JudgesPart, ChecksOn, FindsPart}
use Rattle.automizer_top.proofs.PartFunctions.{graphs_more, unlowered_at, graph_at, graphs_as_many, safe_more, texts_more, races_more, judges_any, goes_on, drop_at, take_at, split_at, all_more, get_map}

-- ---- an element of a list

pub at : {X : Type 0} (xs : List X) (n : ℕ) (x : X) → n < length xs → x ≡ get_or xs n x → slice_get xs n ≡ Some x
at xs n x l e = slice_get_read xs (length xs) n x refl l e

take_map : {X Y : Type 0} (f : X → Y) (xs : List X) (n : ℕ) → map f (take n xs) ≡ take n (map f xs)
take_map f [] zero = refl
take_map f [] (suc n) = refl
take_map f (x ∷ xs) zero = refl
take_map f (x ∷ xs) (suc n) = λ i. f x ∷ take_map f xs n i

whole : {X : Type 0} (xs : List X) (n : ℕ) → length xs ≤ n → take n xs ≡ xs
whole [] zero l = refl
whole [] (suc n) l = refl
whole (x ∷ xs) zero l = absurd (omega arith)
whole (x ∷ xs) (suc n) l = λ i. x ∷ whole xs n (omega arith) i

none_left : {X : Type 0} (xs : List X) (n : ℕ) → length xs ≤ n → drop n xs ≡ []
none_left [] zero l = refl
none_left [] (suc n) l = refl
none_left (x ∷ xs) zero l = absurd (omega arith)
none_left (x ∷ xs) (suc n) l = none_left xs n (omega arith)

-- the part with a number, as its plain view
pub part_at : (ps : List Part) (n : ℕ) (p : Part) (q : PlainPart) → slice_get (map plain_part ps) n ≡ Some q → plain_part (get_or ps n p) ≡ q
part_at [] n p q e = absurd (none-some q e)
part_at (x ∷ ps) zero p q e = same_Some (plain_part x) q e
part_at (x ∷ ps) (suc n) p q e = part_at ps n p q e

-- ---- graphs

-- the graphs of the first parts
abbrev pub AreFirst : List Part → ℕ → List Graph → Type 0
AreFirst ps n gs = AreGraphsOf (take n (map plain_part ps)) gs

pub one_graph_more : (ps : List Part) (n : ℕ) (gs new : List Graph) (p : Part) (g : Graph) → n < length ps → p ≡ get_or ps n p → AreFirst ps n gs → IsGraphOf (plain_part p).program g → new ≡ gs ++ g ∷ [] →
    AreFirst ps (n + 1) new
one_graph_more ps n gs new p g l e h k pushed =
    let there = get_map plain_part ps n p (at ps n p l e) in
    subst (λ (qs : List PlainPart). AreGraphsOf qs new) (sym (take_at (map plain_part ps) n (plain_part p) there))
    (subst (AreGraphsOf (take n (map plain_part ps) ++ plain_part p ∷ [])) (sym pushed) (graphs_more (take n (map plain_part ps)) gs (plain_part p) g h k))

pub all_graphs : (ps : List Part) (n : ℕ) (gs : List Graph) → length ps ≤ n → AreFirst ps n gs → AreGraphsOf (map plain_part ps) gs
all_graphs ps n gs l h =
    let m : length (map plain_part ps) ≡ length ps = length-map ps plain_part in
    subst (λ (qs : List PlainPart). AreGraphsOf qs gs) (whole (map plain_part ps) n (omega (arith, m, l))) h

pub no_graph : (ps : List Part) (n : ℕ) (gs : List Graph) (p : Part) (a : Answer) → n < length ps → p ≡ get_or ps n p → AreFirst ps n gs → RefusesLowering (plain_part p).program a →
    RefusesUnlowered (map plain_part ps) a
no_graph ps n gs p a l e h r =
    let there = get_map plain_part ps n p (at ps n p l e) in
    subst (λ (qs : List PlainPart). RefusesUnlowered qs a) (sym (split_at (map plain_part ps) n (plain_part p) there))
    (unlowered_at (take n (map plain_part ps)) (drop (n + 1) (map plain_part ps)) gs (plain_part p) a h r)

-- ---- a part and its graph

pub part_graph : (ps : List Part) (gs : List Graph) (n : ℕ) (p : Part) (g : Graph) → AreGraphsOf (map plain_part ps) gs → n < length ps → p ≡ get_or ps n p → g ≡ get_or gs n g → IsGraphOf (plain_part p).program g
part_graph ps gs n p g h l e f =
    let m : length (map plain_part ps) ≡ length ps = length-map ps plain_part in
    let k : length gs ≡ length (map plain_part ps) = graphs_as_many (map plain_part ps) gs h in
    graph_at (map plain_part ps) gs n (plain_part p) g h (get_map plain_part ps n p (at ps n p l e)) (at gs n g (omega (arith, m, k, l)) f)

pub many_graphs : (ps : List Part) (gs : List Graph) → AreGraphsOf (map plain_part ps) gs → length gs ≡ length ps
many_graphs ps gs h = graphs_as_many (map plain_part ps) gs h ∙ length-map ps plain_part

-- ---- verdicts

-- the line of a part and its text, added to a text or to none
pub text_added : (name text new own deref : List ℕ) → new ≡ text ++ (part_line name ++ deref) → deref ≡ own → new ≡ text ++ (part_line name ++ own)
text_added name text new own deref e f = e ∙ ap (λ (x : List ℕ). text ++ (part_line name ++ x)) f

pub text_alone : (name fresh new own deref : List ℕ) → fresh ≡ [] → new ≡ fresh ++ (part_line name ++ deref) → deref ≡ own → new ≡ part_line name ++ own
text_alone name fresh new own deref none e f = text_added name fresh new own deref e f ∙ ap (λ (x : List ℕ). x ++ (part_line name ++ own)) none

-- the first parts are safe, with this text and these races
pub record SafeSoFar (l : Limits) (ps : List Part) (gs : List Graph) (n : ℕ) (text : List ℕ) (races : List (Race Certificate)) : Type 0 where
  pub answers : List Answer
  pub safe : AreSafe l (take n (map plain_part ps)) answers
  pub text_is : text ≡ modular_line (length ps) ++ part_texts (take n (map plain_part ps)) answers
  pub races_are : races ≡ races_of answers
  pub none : HaveNoErrorWord (take n gs)

pub none_verified : (l : Limits) (ps : List Part) (gs : List Graph) (text : List ℕ) (races : List (Race Certificate)) → text ≡ modular_line (length ps) → races ≡ [] → SafeSoFar l ps gs 0 text races
none_verified l ps gs text races e f = record { answers = []; safe = tt; text_is = e ∙ sym (append-nil (modular_line (length ps))); races_are = f; none = tt }

pub one_more_safe : (l : Limits) (ps : List Part) (gs : List Graph) (n : ℕ) (text new : List ℕ) (races more : List (Race Certificate)) (p : Part) (g : Graph) (b : Answer) → n < length ps → p ≡ get_or ps n p →
    n < length gs → g ≡ get_or gs n g → SafeSoFar l ps gs n text races → ReportsVerdict None l (plain_part p).program b → b.status ≡ 0 → HasNoErrorWord g →
    new ≡ text ++ (part_line (plain_part p).name ++ b.bytes) → more ≡ races ++ b.races → SafeSoFar l ps gs (n + 1) new more
one_more_safe l ps gs n text new races more p g b within e within' f h v z none added pushed =
    let qs : List PlainPart = take n (map plain_part ps) in
    let there = take_at (map plain_part ps) n (plain_part p) (get_map plain_part ps n p (at ps n p within e)) in
    record {
      answers = h.answers ++ b ∷ [];
      safe = subst (λ (rs : List PlainPart). AreSafe l rs (h.answers ++ b ∷ [])) (sym there) (safe_more l qs h.answers (plain_part p) b h.safe v z);
      text_is = added ∙ ap (λ (x : List ℕ). x ++ (part_line (plain_part p).name ++ b.bytes)) h.text_is
          ∙ append_assoc (modular_line (length ps)) (part_texts qs h.answers) (part_line (plain_part p).name ++ b.bytes)
          ∙ ap (λ (x : List ℕ). modular_line (length ps) ++ x) (sym (texts_more l qs h.answers (plain_part p) b h.safe))
          ∙ ap (λ (rs : List PlainPart). modular_line (length ps) ++ part_texts rs (h.answers ++ b ∷ [])) (sym there);
      races_are = pushed ∙ ap (λ (rs : List (Race Certificate)). rs ++ b.races) h.races_are ∙ sym (races_more h.answers b);
      none = subst HaveNoErrorWord (sym (take_at gs n g (at gs n g within' f))) (all_more HasNoErrorWord (take n gs) g h.none none);
    }

pub all_are_safe : (l : Limits) (ps : List Part) (gs : List Graph) (n : ℕ) (text : List ℕ) (races : List (Race Certificate)) → length ps ≤ n → SafeSoFar l ps gs n text races →
    ReportsParts l (map plain_part ps) (record { bytes = text; status = 0; races = races })
all_are_safe l ps gs n text races past h =
    let m : length (map plain_part ps) ≡ length ps = length-map ps plain_part in
    let qs : take n (map plain_part ps) ≡ map plain_part ps = whole (map plain_part ps) n (omega (arith, m, past)) in
    let bytes : text ≡ modular_line (length (map plain_part ps)) ++ part_texts (map plain_part ps) h.answers =
    h.text_is ∙ (λ i. modular_line (sym m i) ++ part_texts (qs i) h.answers) in
    all_safe h.answers (subst (λ (rs : List PlainPart). AreSafe l rs h.answers) qs h.safe) (λ i. record { bytes = bytes i; status = 0; races = h.races_are i })

pub none_has_errors : (l : Limits) (ps : List Part) (gs : List Graph) (n : ℕ) (text : List ℕ) (races : List (Race Certificate)) → length gs ≤ n → SafeSoFar l ps gs n text races → HaveNoErrorWord gs
none_has_errors l ps gs n text races past h = subst HaveNoErrorWord (whole gs n past) h.none

pub one_is_unsafe : (l : Limits) (ps : List Part) (gs : List Graph) (n : ℕ) (text own : List ℕ) (races more : List (Race Certificate)) (p : Part) (b : Answer) → n < length ps → p ≡ get_or ps n p →
    SafeSoFar l ps gs n text races → ReportsVerdict None l (plain_part p).program b → b.status ≢ 0 → own ≡ part_line (plain_part p).name ++ b.bytes → more ≡ races ++ b.races →
    ReportsParts l (map plain_part ps) (record { bytes = own; status = b.status; races = more })
one_is_unsafe l ps gs n text own races more p b within e h v other written pushed =
    let there = get_map plain_part ps n p (at ps n p within e) in
    let gained : more ≡ races_of h.answers ++ b.races = pushed ∙ ap (λ (rs : List (Race Certificate)). rs ++ b.races) h.races_are in
    one_is_not (take n (map plain_part ps)) (drop (n + 1) (map plain_part ps)) (plain_part p) h.answers b (split_at (map plain_part ps) n (plain_part p) there) h.safe v other
    (λ i. record { bytes = written i; status = b.status; races = gained i })

-- ---- annotations

-- the first parts are right, and what is answered to the others and to what is left is answered to all
pub record ProvedSoFar (ps : List Part) (gs : List Graph) (text : List ℕ) (n : ℕ) (left : Left) : Type 0 where
  pub goes : (a : Answer) → ChecksParts (drop n (map plain_part ps)) left.before left.text.now a → ReportsPartProofs (map plain_part ps) text a
  pub none : HaveNoErrorWord (take n gs)
  pub few : left.before + length left.text.now ≤ length text + 1
  pub short : length left.text.now ≤ length text

pub none_proved : (ps : List Part) (gs : List Graph) (text rest : List ℕ) (left : Left) → text_behind (modular_line (length ps)) text ≡ Some rest → length rest ≤ length text → left.text.now ≡ rest → left.before ≡ 1 →
    ProvedSoFar ps gs text 0 left
none_proved ps gs text rest left e short same one =
    let m : length (map plain_part ps) ≡ length ps = length-map ps plain_part in
    let k : length left.text.now ≡ length rest = ap (λ (x : List ℕ). length x) same in
    record {
      goes = λ a r. of_part_proofs rest (ap (λ (n : ℕ). text_behind (modular_line n) text) m ∙ e)
          (subst (λ (n : ℕ). ChecksParts (map plain_part ps) n rest a) one (subst (λ (x : List ℕ). ChecksParts (map plain_part ps) left.before x a) same r));
      none = tt;
      few = omega (arith, k, one, short);
      short = omega (arith, k, short);
    }

pub one_more_proved : (ps : List Part) (gs : List Graph) (text : List ℕ) (n : ℕ) (left next : Left) (p : Part) (g : Graph) → n < length ps → p ≡ get_or ps n p → n < length gs → g ≡ get_or gs n g →
    g ≡ lowered (plain_part p).program → ProvedSoFar ps gs text n left → ChecksOn (plain_part p) g left next → ProvedSoFar ps gs text (n + 1) next
one_more_proved ps gs text n left next p g within e within' f same h c =
    let there = drop_at (map plain_part ps) n (plain_part p) (get_map plain_part ps n p (at ps n p within e)) in
    let few = c.few in
    let so_far = h.few in
    let shorter = c.short in
    let short = h.short in
    record {
      goes = λ a r. h.goes a (subst (λ (qs : List PlainPart). ChecksParts qs left.before left.text.now a) (sym there)
          (goes_on (plain_part p) g (drop (n + 1) (map plain_part ps)) left next a same c r));
      none = subst HaveNoErrorWord (sym (take_at gs n g (at gs n g within' f))) (all_more HasNoErrorWord (take n gs) g h.none c.safe);
      few = omega (arith, few, so_far);
      short = omega (arith, shorter, short);
    }

pub one_is_wrong : (ps : List Part) (gs : List Graph) (text : List ℕ) (n : ℕ) (left : Left) (p : Part) (a : Answer) → n < length ps → p ≡ get_or ps n p → ProvedSoFar ps gs text n left →
    JudgesPart (plain_part p) left a → ReportsPartProofs (map plain_part ps) text a
one_is_wrong ps gs text n left p a within e h r =
    let there = drop_at (map plain_part ps) n (plain_part p) (get_map plain_part ps n p (at ps n p within e)) in
    h.goes a (subst (λ (qs : List PlainPart). ChecksParts qs left.before left.text.now a) (sym there)
    (judges_any (plain_part p) left (ChecksParts (drop (n + 1) (map plain_part ps))) a r))

pub all_proved : (ps : List Part) (gs : List Graph) (text : List ℕ) (n : ℕ) (left : Left) (a : Answer) → length ps ≤ n → ProvedSoFar ps gs text n left → ChecksEnd left.before left.text.now a →
    ReportsPartProofs (map plain_part ps) text a
all_proved ps gs text n left a past h r =
    let m : length (map plain_part ps) ≡ length ps = length-map ps plain_part in
    h.goes a (subst (λ (qs : List PlainPart). ChecksParts qs left.before left.text.now a) (sym (none_left (map plain_part ps) n (omega (arith, m, past)))) r)

pub all_have_none : (ps : List Part) (gs : List Graph) (text : List ℕ) (n : ℕ) (left : Left) → length gs ≤ n → ProvedSoFar ps gs text n left → HaveNoErrorWord gs
all_have_none ps gs text n left past h = subst HaveNoErrorWord (whole gs n past) h.none

-- nothing is left, or something is
pub end_empty : (before : ℕ) (left : List ℕ) → (length left == 0) ≡ true → ChecksEnd before left accepted_answer
end_empty before [] e = refl
end_empty before (b ∷ bs) e = absurd (let z : suc (length bs) ≡ 0 = eqb-true (suc (length bs)) 0 e in omega (arith, z))

pub end_behind : (before : ℕ) (left : List ℕ) → (length left == 0) ≡ false → ChecksEnd before left (syntax_answer (before + 1))
end_behind before [] e = absurd (let z : true ≡ false = e in cc)
end_behind before (b ∷ bs) e = refl

-- ---- the part that a text names

-- the line of none of the first parts stands in front of the text
abbrev pub NamesLater : List Part → List ℕ → ℕ → Type 0
NamesLater ps text n = part_in (map plain_part ps) text ≡ part_in (drop n (map plain_part ps)) text

named_or : (p : PlainPart) (ps : List PlainPart) (text : List ℕ) (o : Option (List ℕ)) → text_behind (part_line p.name) text ≡ o → part_in (p ∷ ps) text ≡ option_or (option_map (λ r. (p, r)) o) (part_in ps text)
named_or p ps text o e = ap (λ (x : Option (List ℕ)). option_or (option_map (λ r. (p, r)) x) (part_in ps text)) e

pub not_this : (ps : List Part) (text : List ℕ) (n : ℕ) (p : Part) → n < length ps → p ≡ get_or ps n p → text_behind (part_line (plain_part p).name) text ≡ None → NamesLater ps text n → NamesLater ps text (n + 1)
not_this ps text n p within e none h =
    let there = drop_at (map plain_part ps) n (plain_part p) (get_map plain_part ps n p (at ps n p within e)) in
    h ∙ ap (λ (qs : List PlainPart). part_in qs text) there ∙ named_or (plain_part p) (drop (n + 1) (map plain_part ps)) text None none

pub this_one : (ps : List Part) (text : List ℕ) (n : ℕ) (p : Part) (rest : Bor (List ℕ)) → n < length ps → p ≡ get_or ps n p → text_behind (part_line (plain_part p).name) text ≡ Some rest.now → NamesLater ps text n →
    FindsPart (map plain_part ps) text (Some (n, rest))
this_one ps text n p rest within e is h =
    let here = get_map plain_part ps n p (at ps n p within e) in
    let there = drop_at (map plain_part ps) n (plain_part p) here in
    (plain_part p, here, h ∙ ap (λ (qs : List PlainPart). part_in qs text) there ∙ named_or (plain_part p) (drop (n + 1) (map plain_part ps)) text (Some rest.now) is)

pub none_named : (ps : List Part) (text : List ℕ) (n : ℕ) → length ps ≤ n → NamesLater ps text n → part_in (map plain_part ps) text ≡ None
none_named ps text n past h =
    let m : length (map plain_part ps) ≡ length ps = length-map ps plain_part in
    h ∙ ap (λ (qs : List PlainPart). part_in qs text) (none_left (map plain_part ps) n (omega (arith, m, past)))
