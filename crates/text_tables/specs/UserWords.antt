-- The users that the words of a command name: NAME KIND HEX, and so on.
use Rattle.std.specs.Prelude.{ℕ, List, [], ◌∷◌, ◌++◌, length, Bool, true, false, ◌&&◌, not, nat_lt}
use Rattle.std.specs.Prelude.{nat_le, if◌then◌else◌, Option, Some, None, is_some}
use Rattle.std.specs.List.{list_all}
use Rattle.octet_lists.specs.Sizes.{max_name}
use Rattle.login_setup.specs.Setup.{is_valid_for}
use Rattle.login_setup.specs.Users.{user_of}
use Rattle.login_setup.specs.declared.users.User.{User}
use Rattle.text_tables.specs.Fields.{octets_of, spells_octets, spells_kind, kind_of}
use Rattle.text_tables.specs.Rows.{is_within}

-- printable characters other than a space, 21 to 7e
abbrev pub is_visible : List ℕ → Bool
is_visible word = list_all (λ b. nat_le 33 b && nat_le b 126) word

-- a name of 1 to 253 visible octets
unfoldable pub is_name : List ℕ → Bool
is_name word = is_visible word && is_within (length word) 1 max_name

-- a key of the method's size in hex
unfoldable pub is_key : ℕ → List ℕ → Bool
is_key kind word = spells_octets word && is_valid_for kind (octets_of word)

-- the user that three words name: a name, a method, and its key
unfoldable pub user_named : List ℕ → List ℕ → List ℕ → Option User
user_named name kind key =
    if is_name name && (spells_kind kind && is_key (kind_of kind) key)
    then Some (record { name = name; kind = kind_of kind; psk = octets_of key; barred = false })
    else None

-- the users with one more, unless 16 are there or one of them has its name and method
abbrev pub with_named : List User → Option User → Option (List User)
with_named users None = None
with_named users (Some user) =
    if nat_lt (length users) 16 && not (is_some (user_of users user.name user.kind))
    then Some (users ++ user ∷ []) else None

-- the users that words name after these
unfoldable pub users_named : Option (List User) → List (List ℕ) → Option (List User)
users_named None words = None
users_named (Some users) [] = Some users
users_named (Some users) (name ∷ []) = None
users_named (Some users) (name ∷ kind ∷ []) = None
users_named (Some users) (name ∷ kind ∷ key ∷ rest) =
    users_named (with_named users (user_named name kind key)) rest

-- the users with those that words name after them, up to the first words that name none, or none
-- that is added
unfoldable pub users_until : List User → Option (List User) → List (List ℕ) → List User
users_until added None words = added
users_until added (Some users) [] = users
users_until added (Some users) (name ∷ []) = users
users_until added (Some users) (name ∷ kind ∷ []) = users
users_until added (Some users) (name ∷ kind ∷ key ∷ rest) =
    users_until users (with_named users (user_named name kind key)) rest

-- what a call that adds users to a list has read
abbrev pub read_as : Bool → List User → Option (List User)
read_as true users = Some users
read_as false users = None
