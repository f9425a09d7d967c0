-- What a text under construction holds.
use Rattle.std.specs.Prelude.{◌≡◌, ℕ, List, ◌++◌, IfOk, Result, vec_items, vec_capacity}
use Rattle.text.specs.declared.NoMemory.{NoMemory}
use Rattle.text.specs.declared.Text.{Text}

abbrev pub shown : Text → List ℕ
shown t = vec_items t.bytes

-- how many bytes it can hold before it has to ask the heap again
abbrev pub text_room : Text → ℕ
text_room t = vec_capacity t.bytes

-- the answer, where memory did not run out, is the text with these bytes behind it
abbrev pub Appends : Result Text NoMemory → Text → List ℕ → Type 0
Appends r text more = IfOk r (λ t. shown t ≡ shown text ++ more)
