-- The places of one step of a record, and what is heard and counted in them.
use Rattle.std.proofs.Common.{◌≡◌, ℕ, ◌+◌, ◌<◌, ◌≤◌, List, get_or, length, take, drop, None, Some, Option, count_by, refl, ap, ◌∙◌, arith}
use Rattle.std.proofs.lemmas.Grind.{common_steps}
use Rattle.protocol.proofs.Counting.{below_alike}
use Rattle.memory.proofs.Counting.{count_places}
use Rattle.broadcast.specs.Hearing.{hear, says, count_saying}
use borrow.Rule.Slice.PartMut.{put_mid, put_same, set_mid_at}

module _ (first k : ℕ) (xs row : List (Option ℕ)) (fits : first + k ≤ length xs) where
  -- hearing in the row is hearing in the whole
  pub heard_row : (j b : ℕ) → j < k → row ≡ hear j b (take k (drop first xs)) → put_mid first k xs row ≡ hear (first + j) b xs
  heard_row j b lt e = ap (put_mid first k xs) e ∙ go (get_or xs (first + j) None) refl (grind (arith, common_steps))
    where
      go : (o : Option ℕ) → get_or xs (first + j) None ≡ o → get_or (take k (drop first xs)) j None ≡ get_or xs (first + j) None → put_mid first k xs (hear j b (take k (drop first xs))) ≡ hear (first + j) b xs
      go None e f = rw (f, e) (set_mid_at first k j xs (Some b) (grind (arith, common_steps)))
      go (Some a) e f = rw (f, e) (put_same first k xs)

  -- counting in the row is counting in the whole
  pub counted_row : (n b : ℕ) → length row ≡ n → count_by (says b) row ≡ count_saying n first b (put_mid first k xs row)
  counted_row n b size = count_places (says b) None row n size ∙ below_alike n _ _ (λ j lt. ap (says b) (at j lt))
    where
      at : (j : ℕ) → j < n → get_or row j None ≡ get_or (put_mid first k xs row) (first + j) None
      at j lt = grind (arith, common_steps)
