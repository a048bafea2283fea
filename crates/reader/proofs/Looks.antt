-- Looking up a declared name.
use Rattle.std.proofs.Common.{◌≡◌, ℕ, true, false, List, Decides, sym}
use Rattle.label.specs.Names.{IsName}
use Rattle.label.specs.Tests.{is_name}
use Rattle.label.specs.TestLaws.{name_test, decides_same}

-- the test of the code says what the definition's says
pub is_a_name : (w : List ℕ) → Decides true (IsName w) → is_name w ≡ true
is_a_name w d = sym (decides_same true (is_name w) d (name_test w))

pub is_no_name : (w : List ℕ) → Decides false (IsName w) → is_name w ≡ false
is_no_name w d = sym (decides_same false (is_name w) d (name_test w))
