-- One token of a line, and what the grammar's machine does with it.
use Rattle.std.proofs.Common.{◌≡◌, ℕ, Bool, true, false, cond, ◌&&◌, is_some, List, [], ◌∷◌, length, Some, None, Ok, Err, Option, Result, sym, refl, ap, ◌∙◌, subst, add-zero}
use Rattle.std.specs.Option.{ok_or}
use Rattle.token.specs.declared.cursor.Cursor.{Cursor}
use Rattle.token.specs.declared.fault.Position.{Position}
use Rattle.token.specs.declared.fault.TokenFault.{TokenFault}
use Rattle.token.specs.declared.lex.Token.{Token as Lexeme}
use Rattle.token.specs.Scan.{left, here, bytes_on, scanned, spelled, Apt, taken, remaining}
use Rattle.token.specs.Tokens.{behind, lawful, spelling}
use Rattle.grammar.specs.declared.fault.FormFault.{FormFault}
use Rattle.grammar.specs.declared.fault.FormFault.TheVariants.{Token, Unexpected}
use Rattle.form.specs.declared.forms.Form.{Form}
use Rattle.grammar.specs.Grammar.{Shape, done, next, run}
use Rattle.grammar.specs.Reads.{Stop, short_of_form, halt, sequel, comes_to, stopped, Pulled, Ends}

-- a test on the first token, once it is known
abbrev choice : Bool → Position → List ℕ → Result (Option (List ℕ)) TokenFault
choice b at p = cond b (Ok (Some p)) (Err (record { place = at }))

-- the answer is a token: it is the first of those left, and lawful
got_some : (at : Position) (ps : List (List ℕ)) (q : List ℕ) → Ok (Some q) ≡ scanned at ps → (ps ≡ q ∷ behind ps) × (lawful q ≡ true)
got_some at [] q e = cc
got_some at (p ∷ ps) q e = go (lawful p) refl
  where
    go : (b : Bool) → lawful p ≡ b → (p ∷ ps ≡ q ∷ ps) × (lawful q ≡ true)
    go true l =
        let told = e ∙ ap (λ b. choice b at p) l in
        let same : p ≡ q = cc in
        ((λ i. same i ∷ ps), ap lawful (sym same) ∙ l)
    go false l = let told = e ∙ ap (λ b. choice b at p) l in cc

got_none : (at : Position) (ps : List (List ℕ)) → Ok None ≡ scanned at ps → ps ≡ []
got_none at [] e = refl
got_none at (p ∷ ps) e = go (lawful p) refl
  where
    go : (b : Bool) → lawful p ≡ b → p ∷ ps ≡ []
    go true l = let told = e ∙ ap (λ b. choice b at p) l in cc
    go false l = let told = e ∙ ap (λ b. choice b at p) l in cc

-- it is a fault: the first token is not lawful, and no shape takes it
pull_fault : (at : Position) (ps : List (List ℕ)) (e : TokenFault) → Err e ≡ scanned at ps → (s : Shape) → run s at ps ≡ Err (Token e)
unfolding run
pull_fault at [] e h s = cc
pull_fault at (p ∷ ps) e h s = go (lawful p) refl s
  where
    go : (b : Bool) → lawful p ≡ b → (s : Shape) → run s at (p ∷ ps) ≡ Err (Token e)
    go true l s = let told = h ∙ ap (λ b. choice b at p) l in cc
    go false l (done f) =
        let told = h ∙ ap (λ b. choice b at p) l in
        let same : e ≡ record { place = at } = cc in
        ap (λ b. Err (cond b (Unexpected at) (Token (record { place = at })))) l ∙ ap (λ x. Err (Token x)) (sym same)
    go false l (next fits then) =
        let told = h ∙ ap (λ b. choice b at p) l in
        let same : e ≡ record { place = at } = cc in
        ap (λ b. cond (b && fits p) (run (then p) (bytes_on at (length p)) ps) (Err (cond b (Unexpected at) (Token (record { place = at }))))) l ∙ ap (λ x. Err (Token x)) (sym same)

pull_none : (at : Position) (ps : List (List ℕ)) (fits : List ℕ → Bool) (then : List ℕ → Shape) → Ok None ≡ scanned at ps → run (next fits then) at ps ≡ Err (Unexpected at)
unfolding run
pull_none at ps fits then e = ap (run (next fits then) at) (got_none at ps e)

pull_some : (at : Position) (ps : List (List ℕ)) (q : List ℕ) (fits : List ℕ → Bool) (then : List ℕ → Shape) → Ok (Some q) ≡ scanned at ps → run (next fits then) at ps ≡ cond (fits q) (run (then q) (bytes_on at (length q)) (behind ps)) (Err (Unexpected at))
unfolding run
pull_some at ps q fits then e = ap (run (next fits then) at) (got_some at ps q e).0 ∙ (ap (λ b. cond (b && fits q) (run (then q) (bytes_on at (length q)) (behind ps)) (Err (cond b (Unexpected at) (Token (record { place = at }))))) (got_some at ps q e).1)

-- what each of these leaves: a token that is there and lawful is taken, and else nothing is
halt_fault : (at : Position) (ps : List (List ℕ)) (e : TokenFault) (fits : List ℕ → Bool) (then : List ℕ → Shape) → Err e ≡ scanned at ps → halt (next fits then) at ps ≡ short_of_form at ps
unfolding halt
halt_fault at [] e fits then h = refl
halt_fault at (p ∷ ps) e fits then h = go (lawful p) refl
  where
    then_halt : Stop
    then_halt = cond (fits p) (halt (then p) (bytes_on at (length p)) ps) (short_of_form (bytes_on at (length p)) ps)

    go : (b : Bool) → lawful p ≡ b → cond (lawful p) then_halt (short_of_form at (p ∷ ps)) ≡ short_of_form at (p ∷ ps)
    go true l = let told = h ∙ ap (λ b. choice b at p) l in cc
    go false l = ap (λ b. cond b then_halt (short_of_form at (p ∷ ps))) l

halt_none : (at : Position) (ps : List (List ℕ)) (fits : List ℕ → Bool) (then : List ℕ → Shape) → Ok None ≡ scanned at ps → halt (next fits then) at ps ≡ short_of_form at ps
unfolding halt
halt_none at ps fits then e = let none = got_none at ps e in ap (halt (next fits then) at) none ∙ ap (short_of_form at) (sym none)

halt_some : (at : Position) (ps : List (List ℕ)) (q : List ℕ) (fits : List ℕ → Bool) (then : List ℕ → Shape) → Ok (Some q) ≡ scanned at ps → halt (next fits then) at ps ≡ cond (fits q) (halt (then q) (bytes_on at (length q)) (behind ps)) (short_of_form (bytes_on at (length q)) (behind ps))
unfolding halt
halt_some at ps q fits then e =
    ap (halt (next fits then) at) (got_some at ps q e).0
    ∙ ap (λ b. cond b (cond (fits q) (halt (then q) (bytes_on at (length q)) (behind ps)) (short_of_form (bytes_on at (length q)) (behind ps))) (short_of_form at (q ∷ behind ps))) (got_some at ps q e).1

-- The same of a cursor, which stood at c and now stands at d; o is what its next token was.
-- it took nothing
stays : (c d : Cursor) → here d ≡ bytes_on (here c) 0 → left d ≡ left c → short_of_form (here c) (left c) ≡ short_of_form (here d) (left d)
stays c d place tokens = let same : bytes_on (here c) 0 ≡ here c = ap (λ n. record { line = (here c).line; byte = n }) (add-zero (here c).byte) in λ i. short_of_form (sym (place ∙ same) i) (sym tokens i)

abbrev FaultsAt : Cursor → Cursor → FormFault → Type 0
FaultsAt c d e = (fits : List ℕ → Bool) (then : List ℕ → Shape) → sequel c (next fits then) ≡ stopped d e

pub faulty : (c d : Cursor) (e : TokenFault) → Err e ≡ scanned (here c) (left c) → here d ≡ bytes_on (here c) 0 → left d ≡ left c → FaultsAt c d (Token e)
unfolding sequel
faulty c d e value place tokens fits then i = comes_to (pull_fault (here c) (left c) e value (next fits then) i) ((halt_fault (here c) (left c) e fits then value ∙ stays c d place tokens) i)

pub missed : (c d : Cursor) (o : Option Lexeme) (at : Position) (e : FormFault) → spelled (Ok o) ≡ scanned (here c) (left c) → here d ≡ bytes_on (here c) (taken (Ok o)) → left d ≡ remaining (Ok o) (left c) → at ≡ here c → ok_or o (Unexpected at) ≡ Err e → FaultsAt c d e
unfolding sequel
missed c d None at e value place tokens is h =
    let same : Unexpected at ≡ e = cc in λ fits then i. comes_to ((pull_none (here c) (left c) fits then value ∙ (ap (λ p. Err (Unexpected p)) (sym is) ∙ ap Err same)) i) ((halt_none (here c) (left c) fits then value ∙ stays c d place tokens) i)
missed c d (Some u) at e value place tokens is h = cc

-- a choice of two outcomes, made in each part
by_parts : (b : Bool) (r s : Result Form FormFault) (x y : Stop) → comes_to (cond b r s) (cond b x y) ≡ cond b (comes_to r x) (comes_to s y)
by_parts true r s x y = refl
by_parts false r s x y = refl

took : (c d : Cursor) (u : Lexeme) (fits : List ℕ → Bool) (then : List ℕ → Shape) → Ok (Some (spelling u)) ≡ scanned (here c) (left c) → here d ≡ bytes_on (here c) (length (spelling u)) → left d ≡ behind (left c) → sequel c (next fits then) ≡ cond (fits (spelling u)) (sequel d (then (spelling u))) (stopped d (Unexpected (here c)))
unfolding sequel
took c d u fits then value place tokens =
    let q = spelling u in
    (λ i. comes_to (pull_some (here c) (left c) q fits then value i) (halt_some (here c) (left c) q fits then value i))
    ∙ ((λ i. comes_to (cond (fits q) (run (then q) (sym place i) (sym tokens i)) (Err (Unexpected (here c)))) (cond (fits q) (halt (then q) (sym place i) (sym tokens i)) (short_of_form (sym place i) (sym tokens i))))
    ∙ by_parts (fits q) (run (then q) (here d) (left d)) (Err (Unexpected (here c))) (halt (then q) (here d) (left d)) (short_of_form (here d) (left d)))

pub pulled : (c d : Cursor) (o : Option Lexeme) (at : Position) (t : Lexeme) → spelled (Ok o) ≡ scanned (here c) (left c) → Apt (Ok o) → here d ≡ bytes_on (here c) (taken (Ok o)) → left d ≡ remaining (Ok o) (left c) → at ≡ here c → ok_or o (Unexpected at) ≡ Ok t → Pulled c d (Ok (record { token = t; place = at }))
pulled c d None at t value kind place tokens is h = cc
pulled c d (Some u) at t value kind place tokens is h =
    let same : u ≡ t = cc in
    subst (λ x. Pulled c d (Ok (record { token = x; place = at }))) same (is, (kind, λ fits then. took c d u fits then value place tokens ∙ (λ i. cond (fits (spelling u)) (sequel d (then (spelling u))) (stopped d (Unexpected (sym is i))))))

-- the end of a line
end_none : (at : Position) (ps : List (List ℕ)) (f : Form) → Ok None ≡ scanned at ps → run (done f) at ps ≡ Ok f
unfolding run
end_none at ps f e = ap (run (done f) at) (got_none at ps e)

end_some : (at : Position) (ps : List (List ℕ)) (f : Form) (q : List ℕ) → Ok (Some q) ≡ scanned at ps → run (done f) at ps ≡ Err (Unexpected at)
unfolding run
end_some at ps f q e = ap (run (done f) at) (got_some at ps q e).0 ∙ ap (λ b. Err (cond b (Unexpected at) (Token (record { place = at })))) (got_some at ps q e).1

pub ends_fault : (c : Cursor) (f : Form) (e : TokenFault) → Err e ≡ scanned (here c) (left c) → Ends c f (Err (Token e))
unfolding sequel
ends_fault c f e value = pull_fault (here c) (left c) e value (done f)

pub ends_none : (c : Cursor) (o : Option Lexeme) (f : Form) → is_some o ≡ false → spelled (Ok o) ≡ scanned (here c) (left c) → Ends c f (Ok f)
unfolding sequel
ends_none c None f e value = end_none (here c) (left c) f value
ends_none c (Some u) f e value = cc

pub ends_some : (c : Cursor) (o : Option Lexeme) (f : Form) (at : Position) → is_some o ≡ true → spelled (Ok o) ≡ scanned (here c) (left c) → at ≡ here c → Ends c f (Err (Unexpected at))
unfolding sequel
ends_some c None f at e value is = cc
ends_some c (Some u) f at e value is = end_some (here c) (left c) f (spelling u) value ∙ ap (λ p. Err (Unexpected p)) (sym is)
