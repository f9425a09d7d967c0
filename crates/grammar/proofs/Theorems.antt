-- Reading and writing agree, and a fault stands where no written form goes on.
use Rattle.std.proofs.Common.{◌≡◌, ℕ, List, ◌++◌, Ok, sym, ap, ◌∙◌, subst}
use Rattle.std.specs.List.{concat}
use Rattle.token.specs.declared.fault.Position.{Position}
use Rattle.token.specs.Tokens.{pieces}
use Rattle.token.proofs.Pieces.{joined_pieces}
use Rattle.form.specs.declared.forms.Form.{Form}
use Rattle.form.specs.Format.{FormFits, written}
use Rattle.grammar.specs.Exact.{Exact, Faults}
use Rattle.grammar.specs.Grammar.{form, reading}
use Rattle.grammar.proofs.Commands.{form_read, form_made, form_live}
use Rattle.grammar.proofs.Cuts.{pieces_written}
use Rattle.grammar.proofs.Digits.{plain_pieces}
use Rattle.grammar.proofs.Machine.{Yields, yields_from_run, stops_from_run, run_from_yields}

-- a form is yielded by just the tokens of its text
text_yields : (ps : List (List ℕ)) (f : Form) → FormFits f → pieces (written f) ≡ ps → Yields form ps f
text_yields ps f h e = subst (λ qs. Yields form qs f) (sym (pieces_written f h) ∙ e) (form_made f h)

text_of : (ps : List (List ℕ)) (f : Form) → Yields form ps f → FormFits f × (pieces (written f) ≡ ps)
text_of ps f y = let r = form_read ps f y in (r.0, pieces_written f r.0 ∙ sym r.1)

abbrev start : ℕ → Position
start at = record { line = at; byte = 1 }

pub exact : (at : ℕ) (s : List ℕ) → Exact s (reading at s)
exact at s = record {
  text = λ f e. sym (joined_pieces s) ∙ (ap concat (sym (read f e).1) ∙ joined_pieces (written f));
  fits = λ f e. (read f e).0;
  only = λ f h e. run_from_yields form (start at) (pieces s) f (text_yields (pieces s) f h (ap pieces (sym e)));
}
  where
    read : (f : Form) → reading at s ≡ Ok f → FormFits f × (pieces (written f) ≡ pieces s)
    read f e = text_of (pieces s) f (yields_from_run form (start at) (pieces s) f form_live (plain_pieces s) e)

pub faults : (at : ℕ) (s : List ℕ) → Faults at s (reading at s)
faults at s e r =
    let t = stops_from_run form (start at) (pieces s) e form_live (plain_pieces s) r in
    let b = text_of (t.before ++ t.rest) t.begun t.begins in
    record {
      before = t.before;
      after = t.after;
      cut = t.cut;
      place = t.place;
      begun = t.begun;
      held = b.0;
      rest = t.rest;
      begins = b.1;
      nowhere = λ f more h w same. t.nowhere f more (text_yields (t.before ++ more) f h w) same;
    }
