-- What the grammar's machine yields, and where it stops.
use Rattle.std.proofs.Common.{◌≡◌, ℕ, ◌+◌, Bool, true, false, cond, not, ◌&&◌, ◌||◌, List, [], ◌∷◌, ◌++◌, length, get_or, Some, None, Ok, Err, Option, Result, sym, refl, ap, ◌∙◌, subst, add-zero, arith, length-append}
use Rattle.std.proofs.lemmas.Bool.{and_parts, and_from, both_ways, cond-true}
use Rattle.std.specs.Char.{is_ascii_digit}
use Rattle.std.specs.List.{concat, AllByRecursion}
use Rattle.std.specs.Str.{all_ascii_digits}
use Rattle.token.specs.declared.fault.Position.{Position}
use Rattle.token.specs.Scan.{bytes_on}
use Rattle.token.specs.Tokens.{front, behind, lawful}
use Rattle.grammar.specs.declared.fault.FormFault.{FormFault}
use Rattle.form.specs.declared.forms.Form.{Form}
use Rattle.grammar.specs.Exact.{first_token, fault_at}
use Rattle.grammar.specs.Grammar.{Shape, done, next, misplaced, run}

-- A token that begins with a digit has digits only. The tokens of a text are so.
abbrev pub plain : List ℕ → Bool
plain p = not (is_ascii_digit (get_or p 0 0)) || all_ascii_digits p

abbrev pub good : List ℕ → Bool
good p = lawful p && plain p

-- the machine ends in f after just these tokens
abbrev pub Yields : Shape → List (List ℕ) → Form → Type 0
Yields (done g) ps f = (ps ≡ []) × (g ≡ f)
Yields (next fits then) ps f = (p : List ℕ) × (rest : List (List ℕ)) × (ps ≡ p ∷ rest) × (good p ≡ true) × (fits p ≡ true) × Yields (then p) rest f

-- some good token fits wherever the machine can come to
abbrev pub Live : Shape → Type 0
Live (done f) = Unit {0}
Live (next fits then) = (p : List ℕ) × (good p ≡ true) × (fits p ≡ true) × ((q : List ℕ) → good q ≡ true → fits q ≡ true → Live (then q))

-- the machine can be led to its end
completed : (s : Shape) → Live s → (rest : List (List ℕ)) × (f : Form) × Yields s rest f
completed (done f) l = ([], f, (refl, refl))
completed (next fits then) l =
    let p = l.0 in
    let c = completed (then p) (l.3 p l.1 l.2) in
    (p ∷ c.0, c.1, (p, c.0, refl, l.1, l.2, c.2))

-- a fault e, as the format tells it, of the tokens ps from a place on
pub record Stops (s : Shape) (at : Position) (ps : List (List ℕ)) (e : FormFault) : Type 0 where
  pub before : List (List ℕ)
  pub after : List (List ℕ)
  pub cut : ps ≡ before ++ after
  pub place : e ≡ fault_at (bytes_on at (length (concat before))) after
  pub begun : Form
  pub rest : List (List ℕ)
  pub begins : Yields s (before ++ rest) begun
  pub nowhere : (f : Form) (more : List (List ℕ)) → Yields s (before ++ more) f → first_token more ≡ first_token after → ⊥

abbrev Outcome : Shape → Position → List (List ℕ) → Result Form FormFault → Type 0
Outcome s at ps (Ok f) = Yields s ps f
Outcome s at ps (Err e) = Stops s at ps e

-- the first token is at fault, or the end
at_once : (s : Shape) (at : Position) (ps : List (List ℕ)) → Live s → ((f : Form) (more : List (List ℕ)) → Yields s more f → first_token more ≡ first_token ps → ⊥) → Stops s at ps (fault_at at ps)
at_once s at ps l none =
    let c = completed s l in
    record {
      before = [];
      after = ps;
      cut = refl;
      place = ap (λ n. fault_at (record { line = at.line; byte = n }) ps) (sym (add-zero at.byte));
      begun = c.1;
      rest = c.0;
      begins = c.2;
      nowhere = none;
    }

-- no token is not some token
apart : (p : List ℕ) (o : Option (List ℕ)) → o ≡ None → o ≡ Some p → ⊥
apart p o a b = cc

-- what is left behind a first token
taken : (fits : List ℕ → Bool) (then : List ℕ → Shape) (p : List ℕ) (ps : List (List ℕ)) (f : Form) → Yields (next fits then) (p ∷ ps) f → Yields (then p) ps f
taken fits then p ps f y =
    subst (λ q. Yields (then q) ps f) (sym (ap front y.2)) (subst (λ qs. Yields (then y.0) qs f) (sym (ap behind y.2)) y.5)

-- a first token p that is read, and one that is not
module _ (fits : List ℕ → Bool) (then : List ℕ → Shape) (p : List ℕ) (ps : List (List ℕ)) where
  further : (at : Position) → lawful p ≡ true → fits p ≡ true → plain p ≡ true → (r : Result Form FormFault) → Outcome (then p) (bytes_on at (length p)) ps r → Outcome (next fits then) at (p ∷ ps) r
  further at a b c (Ok f) y = (p, ps, refl, and_from (lawful p) (plain p) a c, b, y)
  further at a b c (Err e) t =
      let long : at.byte + length p + length (concat t.before) ≡ at.byte + length (p ++ concat t.before) = omega (arith, length-append p (concat t.before)) in
      record {
        before = p ∷ t.before;
        after = t.after;
        cut = ap (λ z. p ∷ z) t.cut;
        place = t.place ∙ ap (λ n. fault_at (record { line = at.line; byte = n }) t.after) long;
        begun = t.begun;
        rest = t.rest;
        begins = (p, t.before ++ t.rest, refl, and_from (lawful p) (plain p) a c, b, t.begins);
        nowhere = λ f more y same. t.nowhere f more (taken fits then p (t.before ++ more) f y) same;
      }

  refused : (at : Position) → Live (next fits then) → (lawful p && fits p) ≡ false → Stops (next fits then) at (p ∷ ps) (misplaced at p)
  refused at l unfit = at_once (next fits then) at (p ∷ ps) l (λ f more y same.
      let is : y.0 ≡ p = cc (ap first_token y.2) in
      both_ways (lawful p && fits p) unfit (and_from (lawful p) (fits p) (ap lawful (sym is) ∙ (and_parts (lawful y.0) (plain y.0) y.3).0) (ap fits (sym is) ∙ y.4)))

-- a run ends in the form that its tokens yield, or stops in a fault
outcome : (s : Shape) (at : Position) (ps : List (List ℕ)) → Live s → AllByRecursion (λ p. plain p ≡ true) ps → Outcome s at ps (run s at ps)
unfolding run
outcome (done f) at [] l h = (refl, refl)
outcome (done f) at (p ∷ ps) l h = at_once (done f) at (p ∷ ps) l (λ g more y same. apart p (first_token more) (ap first_token y.0) same)
outcome (next fits then) at [] l h = at_once (next fits then) at [] l (λ g more y same. apart y.0 (first_token more) same (ap first_token y.2))
outcome (next fits then) at (p ∷ ps) l h =
    go (lawful p && fits p) refl (λ q. outcome (then p) (bytes_on at (length p)) ps q h.1)
  where
    go : (t : Bool) → (lawful p && fits p) ≡ t → (Live (then p) → Outcome (then p) (bytes_on at (length p)) ps (run (then p) (bytes_on at (length p)) ps)) → Outcome (next fits then) at (p ∷ ps) (cond t (run (then p) (bytes_on at (length p)) ps) (Err (misplaced at p)))
    go true e ih =
        let t = and_parts (lawful p) (fits p) e in
        further fits then p ps at t.0 t.1 h.0 (run (then p) (bytes_on at (length p)) ps) (ih (l.3 p (and_from (lawful p) (plain p) t.0 h.0) t.1))
    go false e ih = refused fits then p ps at l e

pub yields_from_run : (s : Shape) (at : Position) (ps : List (List ℕ)) (f : Form) → Live s → AllByRecursion (λ p. plain p ≡ true) ps → run s at ps ≡ Ok f → Yields s ps f
yields_from_run s at ps f l h e = subst (Outcome s at ps) e (outcome s at ps l h)

pub stops_from_run : (s : Shape) (at : Position) (ps : List (List ℕ)) (e : FormFault) → Live s → AllByRecursion (λ p. plain p ≡ true) ps → run s at ps ≡ Err e → Stops s at ps e
stops_from_run s at ps e l h r = subst (Outcome s at ps) r (outcome s at ps l h)

pub run_from_yields : (s : Shape) (at : Position) (ps : List (List ℕ)) (f : Form) → Yields s ps f → run s at ps ≡ Ok f
unfolding run
run_from_yields (done g) at ps f y = ap (run (done g) at) y.0 ∙ ap Ok y.1
run_from_yields (next fits then) at ps f y =
    let p = y.0 in
    let fit = and_from (lawful p) (fits p) (and_parts (lawful p) (plain p) y.3).0 y.4 in
    ap (run (next fits then) at) y.2 ∙ (cond-true (lawful p && fits p) _ _ fit ∙ run_from_yields (then p) (bytes_on at (length p)) y.1 f y.5)
