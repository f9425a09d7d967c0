-- The side that each coin shows, by what it holds.
use Rattle.std.specs.Prelude.{◌≡◌, ℕ, ◌+◌, ◌-◌, ◌*◌, ◌/◌, ◌%◌, ◌^◌, cond, List, ◌==◌, slice_index}
use Rattle.protocol.specs.declared.votes.Side.{Side}
use Rattle.protocol.specs.declared.votes.Side.TheVariants.{Keep, Release}

-- odd means release
abbrev pub side_of : ℕ → Side
side_of n = cond (n % 2 == 1) Release Keep

-- the side of the byte at an index: what is past the end counts as 0, so it means keep
abbrev pub strip_side : List ℕ → ℕ → Side
strip_side bytes index = side_of (slice_index bytes index)

-- phases are counted from 1; at phase 0 the side is keep
abbrev pub from_one : ℕ → (ℕ → Side) → Side
from_one phase side = cond (phase == 0) Keep (side (phase - 1))

-- the bytes stand in rows, a byte for each phase
abbrev pub row_side : List ℕ → ℕ → ℕ → ℕ → Side
row_side bytes row phases phase = from_one phase (λ k. strip_side bytes (row * phases + k))

-- a row for each case of each process
abbrev pub own_side : List ℕ → ℕ → ℕ → ℕ → ℕ → ℕ → Side
own_side bytes cases phases process case phase = row_side bytes (process * cases + case) phases phase

-- a row for each case
abbrev pub dealer_side : List ℕ → ℕ → ℕ → ℕ → Side
dealer_side bytes phases case phase = row_side bytes case phases phase

-- a bit of a word, from the lowest on
abbrev pub word_side : ℕ → ℕ → ℕ → Side
word_side word case phase = from_one phase (λ k. side_of (word / 2 ^ ((16 * case + k) % 64)))

-- every process is shown this side
abbrev pub Shared : (ℕ → ℕ → ℕ → Side) → (ℕ → ℕ → Side) → Type 0
Shared shows side = (process case phase : ℕ) → shows process case phase ≡ side case phase
