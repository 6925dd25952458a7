-- A call that is added with its return, and edges that stay as they were.
use Rattle.std.proofs.Common.{◌≡◌, ◌∙◌, ℕ, Bool, List, [], ◌∷◌, ◌++◌, sym, append-nil}
use Rattle.lin_rows.specs.Rows.{LinearRow}
use Rattle.nwa_base.specs.declared.letters.Kind.TheVariants as kinds
use Rattle.letter_acts.specs.Acts.{call_act, back_act}
use Rattle.letter_acts.specs.LetterTable.Letters.{MarkedAct, exact_act, Lettered, call_arc, act_number, with_act, with_arc}
use Rattle.letter_acts.specs.LetterTable.Tables.{EdgesStay}

pub call_added : (d e : Lettered) (one : List MarkedAct) (p f h : ℕ) (rows : List LinearRow) (coarse : Bool) (q t x k call back : ℕ) (targets : List ℕ) →
    one ≡ with_act d.acts (record { act = call_act p f h rows; coarse = coarse }) → call ≡ act_number d.acts (record { act = call_act p f h rows; coarse = coarse }) →
    e.acts ≡ with_act one (exact_act (back_act call targets)) → back ≡ act_number one (exact_act (back_act call targets)) →
    e.insides ≡ d.insides → e.calls ≡ d.calls ++ (q, record { id = call; kind = kinds.Call; call = 0 }, t) ∷ [] →
    e.backs ≡ d.backs ++ (x, q, record { id = back; kind = kinds.Back; call = call }, k) ∷ [] →
    e ≡ with_arc d (call_arc q (record { act = call_act p f h rows; coarse = coarse }) t x targets k)
call_added d e one p f h rows coarse q t x k call back targets a n b m i c r =
    let act : MarkedAct = record { act = call_act p f h rows; coarse = coarse } in
    let acts : e.acts ≡ with_act (with_act d.acts act) (exact_act (back_act (act_number d.acts act) targets)) = b ∙ (λ j. with_act (a j) (exact_act (back_act (n j) targets))) in
    let number : back ≡ act_number (with_act d.acts act) (exact_act (back_act (act_number d.acts act) targets)) = m ∙ (λ j. act_number (a j) (exact_act (back_act (n j) targets))) in
    let calls = c ∙ (λ j. d.calls ++ (q, record { id = n j; kind = kinds.Call; call = 0 }, t) ∷ []) in
    let backs = r ∙ (λ j. d.backs ++ (x, q, record { id = number j; kind = kinds.Back; call = n j }, k) ∷ []) in
    λ j. record { acts = acts j; insides = i j; calls = calls j; backs = backs j }

-- where nothing is added
pub nothing_added : (d e : Lettered) → e.acts ≡ d.acts → e.insides ≡ d.insides → e.calls ≡ d.calls → e.backs ≡ d.backs → EdgesStay d e
nothing_added d e f g h k = record { more = []; acts = f ∙ sym (append-nil d.acts); insides = g; calls = h; backs = k }
