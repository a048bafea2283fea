-- Entry paths of domains.
use Rattle.std.specs.Prelude.{◌≡◌, ℕ, ◌<◌, Bool, false, ◌&&◌, List, ◌==◌, slice_index_or}
use Rattle.std.specs.List.{list_any, count_by}
use Rattle.std.specs.Str.{bytes_eq}
use Rattle.label.specs.Texts.{text}
use Rattle.tables.specs.declared.entry.Entry.{Entry}

abbrev pub is_for : Entry → ℕ → List ℕ → Bool
is_for x d p = x.dom.0 == d && bytes_eq (text x.path) p

-- the path is an entry path of the domain
abbrev pub enters : List Entry → ℕ → List ℕ → Bool
enters xs d p = list_any (λ x. is_for x d p) xs

-- of which of the 32 domains the path is an entry path
abbrev pub Entered : List Entry → List ℕ → List Bool → Type 0
Entered xs p entered = (e : ℕ) → e < 32 → slice_index_or entered e false ≡ enters xs e p

-- how many entry paths the domain has
unfoldable pub count_of : List Entry → ℕ → ℕ
count_of xs d = count_by (λ x. x.dom.0 == d) xs
