-- What a store of n places that holds v answers to a call, and what it holds then. A refusal changes nothing.
use Rattle.std.specs.Prelude.{ℕ, cond, List, ◌++◌, length, drop, Some, None, Ok, Err, Option, Result, nat_eq, nat_le, nat_lt}
use Rattle.std.specs.Map.{update}
use Rattle.std.specs.Option.{option_map}
use Rattle.store.specs.declared.StoreRefusal.{StoreRefusal}
use Rattle.store.specs.declared.StoreRefusal.TheVariants.{NoPlace, TooLong, SmallBuffer}
use Rattle.store.specs.Meaning.{Contents}

-- a get at the place p into a buffer of `room` bytes
abbrev pub get_answer : ℕ → Contents → ℕ → ℕ → Result (Option ℕ) StoreRefusal
get_answer n v p room = cond (nat_lt p n) (cond (nat_le 64 room) (Ok (option_map length (v p))) (Err SmallBuffer)) (Err NoPlace)

-- a buffer whose first bytes are those of a place, where it is present
abbrev pub laid : Option (List ℕ) → List ℕ → List ℕ
laid None buffer = buffer
laid (Some xs) buffer = xs ++ drop (length xs) buffer

abbrev pub get_buffer : ℕ → Contents → ℕ → List ℕ → List ℕ
get_buffer n v p buffer = cond (nat_lt p n) (cond (nat_le 64 (length buffer)) (laid (v p) buffer) buffer) buffer

-- a put of `len` bytes at the place p
abbrev pub put_answer : ℕ → ℕ → ℕ → Result (Unit {0}) StoreRefusal
put_answer n p len = cond (nat_lt p n) (cond (nat_le len 64) (Ok tt) (Err TooLong)) (Err NoPlace)

abbrev pub put_contents : ℕ → Contents → ℕ → List ℕ → Contents
put_contents n v p bytes = cond (nat_lt p n) (cond (nat_le (length bytes) 64) (update nat_eq v p (Some bytes)) v) v

-- a clear of the place p
abbrev pub clear_answer : ℕ → ℕ → Result (Unit {0}) StoreRefusal
clear_answer n p = cond (nat_lt p n) (Ok tt) (Err NoPlace)

abbrev pub clear_contents : ℕ → Contents → ℕ → Contents
clear_contents n v p = cond (nat_lt p n) (update nat_eq v p None) v
