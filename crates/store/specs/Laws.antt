-- What the answers and the contents after a call come to.
use Rattle.std.specs.Prelude.{◌≡◌, ℕ, ◌<◌, ◌≤◌, List, length, Some, None, Ok, Err, Result, ◌≢◌}
use Rattle.store.specs.declared.StoreRefusal.{StoreRefusal}
use Rattle.store.specs.declared.StoreRefusal.TheVariants.{NoPlace, TooLong, SmallBuffer}
use Rattle.store.specs.Meaning.{Contents}
use Rattle.store.specs.Answers.{get_answer, get_buffer, put_answer, put_contents, clear_answer, clear_contents}
use Rattle.store.specs.Number.{number}

-- what is wrong with a get into `room` bytes, with a put of `len` bytes and with a clear, at the place p of n places
abbrev pub GetFault : ℕ → ℕ → ℕ → StoreRefusal → Type 0
GetFault n p room NoPlace = n ≤ p
GetFault n p room TooLong = ⊥
GetFault n p room SmallBuffer = room < 64

abbrev pub PutFault : ℕ → ℕ → ℕ → StoreRefusal → Type 0
PutFault n p len NoPlace = n ≤ p
PutFault n p len TooLong = 64 < len
PutFault n p len SmallBuffer = ⊥

abbrev pub ClearFault : ℕ → ℕ → StoreRefusal → Type 0
ClearFault n p NoPlace = n ≤ p
ClearFault n p TooLong = ⊥
ClearFault n p SmallBuffer = ⊥

-- a refusal by the fault of the lowest number, and none where nothing is wrong
abbrev pub Lowest : {A : Type 0} → (StoreRefusal → Type 0) → Result A StoreRefusal → Type 0
Lowest F (Ok x) = (f : StoreRefusal) → F f → ⊥
Lowest F (Err e) = F e × ((f : StoreRefusal) → F f → number e ≤ number f)

-- a call is refused exactly if something is wrong, and then by the lowest number
pub record LowestRefuses : Type 0 where
  pub get : (n : ℕ) (v : Contents) (p room : ℕ) → Lowest (GetFault n p room) (get_answer n v p room)
  pub put : (n p len : ℕ) → Lowest (PutFault n p len) (put_answer n p len)
  pub clear : (n p : ℕ) → Lowest (ClearFault n p) (clear_answer n p)

-- a refused call changes no place and no buffer
pub record RefusalChangesNothing : Type 0 where
  pub get : (n : ℕ) (v : Contents) (p : ℕ) (buffer : List ℕ) (e : StoreRefusal) → get_answer n v p (length buffer) ≡ Err e → get_buffer n v p buffer ≡ buffer
  pub put : (n : ℕ) (v : Contents) (p : ℕ) (bytes : List ℕ) (e : StoreRefusal) → put_answer n p (length bytes) ≡ Err e → put_contents n v p bytes ≡ v
  pub clear : (n : ℕ) (v : Contents) (p : ℕ) (e : StoreRefusal) → clear_answer n p ≡ Err e → clear_contents n v p ≡ v

-- a call that is taken changes its own place and no other
pub record OnePlaceChanges : Type 0 where
  pub put : (n : ℕ) (v : Contents) (p : ℕ) (bytes : List ℕ) → put_answer n p (length bytes) ≡ Ok tt → put_contents n v p bytes p ≡ Some bytes
  pub put_others : (n : ℕ) (v : Contents) (p : ℕ) (bytes : List ℕ) (k : ℕ) → (k ≢ p) → put_contents n v p bytes k ≡ v k
  pub clear : (n : ℕ) (v : Contents) (p : ℕ) → clear_answer n p ≡ Ok tt → clear_contents n v p p ≡ None
  pub clear_others : (n : ℕ) (v : Contents) (p k : ℕ) → (k ≢ p) → clear_contents n v p k ≡ v k
