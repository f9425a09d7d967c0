-- Laws of bags of messages.
use Rattle.std.proofs.Common.{◌≡◌, ◌+◌, Bool, true, cond, List, [], ◌∷◌, ◌++◌, length, sym, refl, arith}
use Rattle.protocol.specs.declared.messages.Message.{Message}
use Rattle.protocol.specs.Bags.{count, Same}

pub count_none : (p : Message → Bool) → count p [] ≡ 0
unfolding count
count_none p = refl

pub count_cons : (p : Message → Bool) (m : Message) (ms : List Message) → count p (m ∷ ms) ≡ cond (p m) 1 0 + count p ms
unfolding count
count_cons p m ms = refl

pub count_append : (p : Message → Bool) (xs ys : List Message) → count p (xs ++ ys) ≡ count p xs + count p ys
unfolding count
count_append p [] ys = omega arith
count_append p (x ∷ xs) ys = let e = count_append p xs ys in omega arith

-- the number of all messages
pub count_all : (xs : List Message) → count (λ _. true) xs ≡ length xs
unfolding count
count_all [] = refl
count_all (x ∷ xs) = let e = count_all xs in omega arith

pub same_refl : (xs : List Message) → Same xs xs
same_refl xs p = refl

pub same_sym : (xs ys : List Message) → Same xs ys → Same ys xs
same_sym xs ys h p = sym (h p)

pub same_swap : (xs ys : List Message) → Same (xs ++ ys) (ys ++ xs)
same_swap xs ys p = omega (arith, count_append p xs ys, count_append p ys xs)

pub same_length : (xs ys : List Message) → Same xs ys → length xs ≡ length ys
same_length xs ys h = omega (arith, h (λ _. true), count_all xs, count_all ys)
