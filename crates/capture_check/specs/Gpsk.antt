-- The messages of EAP-GPSK in a capture (RFC 5433): the way that they go, their MACs, judged under
-- the key of the user that GPSK-2 names, and what is kept of them.
use Rattle.std.specs.Prelude.{◌≡◌, ℕ, List, [], length, Bool, false, ◌==◌, not, if◌then◌else◌}
use Rattle.std.specs.Prelude.{Option, Some, None, IfSome, option_map, Result, Ok, Err}
use Rattle.std.specs.Option.{option_or}
use Rattle.std.specs.Result.{result_ok}
use Rattle.octet_lists.specs.Among.{gpsk_kind}
use Rattle.octet_lists.specs.Suite.{ks_of}
use Rattle.octet_lists.specs.declared.suite.Suite.{Suite}
use Rattle.login_setup.specs.Users.{user_of}
use Rattle.login_setup.specs.declared.users.User.{User}
use Rattle.eap_packet.specs.declared.cause.Cause.{Cause}
use Rattle.eap_packet.specs.declared.cause.Cause.TheVariants.{WrongOp}
use Rattle.gpsk_messages.specs.Message.{Message, gpsk1, gpsk2, gpsk3, gpsk4, fail, protected_fail}
use Rattle.gpsk_messages.specs.Reading.{read_of}
use Rattle.login_keys.specs.Gpsk.{gpsk_keys_of}
use Rattle.eap_method.specs.GpskTags.{is_tagged}
use Rattle.capture_check.specs.Captured.{Captured, last_shown}
use Rattle.capture_check.specs.Classified.{Classified, classified_of, typed}
use Rattle.capture_check.specs.Tags.{tag_finding, if_right}
use Rattle.capture_check.specs.declared.finding.Finding.{Finding}
use Rattle.capture_check.specs.declared.finding.Finding.TheVariants.{Good, Malformed, TagGood}
use Rattle.capture_check.specs.declared.finding.Finding.TheVariants.{NoKey, NoContext}
use Rattle.capture_check.specs.declared.gpsk.GpskLogin.{GpskLogin}

-- whether a message goes the wrong way (section 3): GPSK-1 and GPSK-3 go to the peer, GPSK-2 and
-- GPSK-4 come from it, and the failures go both ways
abbrev pub is_gpsk_astray : Bool → Message → Bool
is_gpsk_astray to_peer (gpsk1 id_s rand_s list) = not to_peer
is_gpsk_astray to_peer (gpsk2 id_p id_s rand_p rand_s list suite pd mac) = to_peer
is_gpsk_astray to_peer (gpsk3 rand_p rand_s id_s suite pd mac) = not to_peer
is_gpsk_astray to_peer (gpsk4 pd mac) = to_peer
is_gpsk_astray to_peer (fail code) = false
is_gpsk_astray to_peer (protected_fail code mac) = false

abbrev pub gpsk_from_sender : Bool → Result Message Cause → Result Message Cause
gpsk_from_sender to_peer (Err cause) = Err cause
gpsk_from_sender to_peer (Ok message) =
    if is_gpsk_astray to_peer message then Err WrongOp else Ok message

-- the message that Type-Data is, if it goes the right way
abbrev pub gpsk_read : Bool → List ℕ → Result Message Cause
gpsk_read to_peer body = gpsk_from_sender to_peer (read_of None body)

-- GPSK-2 needs no packet before it: its fields name the user and give the keys (sections 4 and 9)

-- the login of this user with the fields of GPSK-2
unfoldable pub gpsk_login_of : User → List ℕ → List ℕ → List ℕ → List ℕ → Suite → GpskLogin
gpsk_login_of user id_p id_s rand_p rand_s suite = record {
  name = user.name;
  suite = suite;
  sk = (gpsk_keys_of suite user.psk rand_p id_p rand_s id_s).sk;
}

-- whether a message has the MAC of the login
abbrev pub is_tagged_in : GpskLogin → Message → Bool
is_tagged_in login message = is_tagged login.suite login.sk message

-- the login of the user whom GPSK-2 names, if there is one
unfoldable pub gpsk_login_in : List User → List ℕ → List ℕ → List ℕ → List ℕ → Suite
    → Option GpskLogin
gpsk_login_in users id_p id_s rand_p rand_s suite =
    option_map (λ user. gpsk_login_of user id_p id_s rand_p rand_s suite)
    (user_of users id_p gpsk_kind)

abbrev pub login_starts : Option GpskLogin → Message → Result GpskLogin Finding
login_starts None message = Err NoKey
login_starts (Some login) message = if_right (is_tagged_in login message) login

-- the login that a GPSK-2 with the right MAC begins, or the finding of one without
unfoldable pub gpsk_starts : List User → List ℕ → List ℕ → List ℕ → List ℕ → Suite → Message
    → Result GpskLogin Finding
gpsk_starts users id_p id_s rand_p rand_s suite message =
    login_starts (gpsk_login_in users id_p id_s rand_p rand_s suite) message

-- a later message belongs to the last login that GPSK-2 began
unfoldable pub gpsk_follows : Option GpskLogin → Message → Finding
gpsk_follows None message = NoContext
gpsk_follows (Some login) message = tag_finding login.name (is_tagged_in login message)

-- the finding of a message that begins a login, or not
abbrev pub gpsk_verdict : Result GpskLogin Finding → Finding
gpsk_verdict (Ok login) = TagGood login.name
gpsk_verdict (Err finding) = finding

-- GPSK-1 and GPSK-Fail have no tag; GPSK-2 is judged under the keys of its own fields, the others
-- under those of the last GPSK-2 whose tag was good
abbrev pub gpsk_tag_finding : List User → Option GpskLogin → Message → Finding
gpsk_tag_finding users login (gpsk1 id_s rand_s list) = Good
gpsk_tag_finding users login (gpsk2 id_p id_s rand_p rand_s list suite pd mac) =
    gpsk_verdict (gpsk_starts users id_p id_s rand_p rand_s suite
    (gpsk2 id_p id_s rand_p rand_s list suite pd mac))
gpsk_tag_finding users login (gpsk3 rand_p rand_s id_s suite pd mac) =
    gpsk_follows login (gpsk3 rand_p rand_s id_s suite pd mac)
gpsk_tag_finding users login (gpsk4 pd mac) = gpsk_follows login (gpsk4 pd mac)
gpsk_tag_finding users login (fail code) = Good
gpsk_tag_finding users login (protected_fail code mac) =
    gpsk_follows login (protected_fail code mac)

-- the finding of what Type-Data is
abbrev pub gpsk_finding : List User → Option GpskLogin → Result Message Cause → Finding
gpsk_finding users login (Err cause) = Malformed cause
gpsk_finding users login (Ok message) = gpsk_tag_finding users login message

-- the login that a GPSK-2 with a good tag begins
abbrev pub gpsk2_of : List User → Result Message Cause → Option GpskLogin
gpsk2_of users (Ok (gpsk2 id_p id_s rand_p rand_s list suite pd mac)) =
    result_ok (gpsk_starts users id_p id_s rand_p rand_s suite
    (gpsk2 id_p id_s rand_p rand_s list suite pd mac))
gpsk2_of users read = None

-- the same of what a packet is
abbrev pub gpsk2_in : List User → Classified → Option GpskLogin
gpsk2_in users (typed to_peer kind body) =
    if kind == gpsk_kind then gpsk2_of users (gpsk_read to_peer body) else None
gpsk2_in users heard = None

-- the login of the last GPSK-2 of a list whose tag is good
unfoldable pub last_gpsk2 : List User → List Captured → Option GpskLogin
last_gpsk2 users packets = last_shown
    (λ before packet. gpsk2_in users (classified_of packet.to_peer packet.octets)) [] packets

-- a packet that begins a login takes the place of the one before
abbrev pub gpsk_after : List User → Option GpskLogin → Classified → Option GpskLogin
gpsk_after users login heard = option_or (gpsk2_in users heard) login

-- SK has KS octets
abbrev pub HasKey : Option GpskLogin → Type 0
HasKey login = IfSome login (λ some. length some.sk ≡ ks_of some.suite)
