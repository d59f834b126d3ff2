-- The users of a server: at most 16, with distinct pairs of a name and a method.
use Rattle.std.specs.Prelude.{◌≡◌, ℕ, ◌<◌, ◌≤◌, List, length, Bool, false, ◌&&◌, ◌==◌, Option, None}
use Rattle.std.specs.Prelude.{find, AllPairs}
use Rattle.std.specs.Str.{bytes_eq}
use Rattle.login_setup.specs.declared.users.User.{User}

-- whether the user has this name and kind
abbrev pub is_named : List ℕ → ℕ → User → Bool
is_named name kind user = (user.kind == kind) && bytes_eq user.name name

-- the user of this name and kind
abbrev pub user_of : List User → List ℕ → ℕ → Option User
user_of users name kind = find (is_named name kind) users

-- the users of a server
abbrev pub max_users : ℕ
max_users = 16

-- there is room for the user: fewer than so many and fewer than 16 are there, and none has its name
-- and kind
pub record HasCapacity (most : ℕ) (users : List User) (user : User) : Type 0 where
  pub few : length users < most
  pub bounded : length users < max_users
  pub absent : user_of users user.name user.kind ≡ None

-- no two users have the same name and kind
abbrev pub AreDistinct : List User → Type 0
AreDistinct users = AllPairs (λ a b. is_named b.name b.kind a ≡ false) users

-- the users of a server: their pairs of name and kind are distinct, and there are at most 16
pub record AreUsers (users : List User) : Type 0 where
  pub distinct : AreDistinct users
  pub few : length users ≤ max_users
