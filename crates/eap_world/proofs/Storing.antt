-- What is stored stays where more is stored.
use Rattle.std.proofs.Common.{◌≡◌, ◌≤◌, ◌<◌, ◌+◌, ◌-◌, ℕ, Bool, true, false, if◌then◌else◌, Option}
use Rattle.std.proofs.Common.{Some, None, option_map, List, [], ◌∷◌, ◌++◌, length, get_or, take}
use Rattle.std.proofs.Common.{drop, refl, sym, ap, subst, ◌∙◌, arith}
use Rattle.std.proofs.Math.Seq.{drop-append_seam}
use Rattle.std.proofs.lemmas.List.{map-append, drop-append-le, take-append-le, length-drop}
use Rattle.std.proofs.lemmas.List.{length-take-le, take_all, take_more}
use Rattle.std.proofs.lemmas.List.Elements.{All-head, All-tail, All-weaker, All-push}
use Rattle.login_setup.specs.declared.setup.Port.{Port}
use Rattle.eap_world.specs.Sent.{Sent, last_to, or_last, same_port}
use Rattle.eap_world.specs.Store.{IsThere, AreThere, last_slot, or_slot, packet_at, packets_at}
use Rattle.eap_world.specs.declared.store.Slot.{Slot}

-- octets that stand in a list stand in a longer one
stays : (octets more : List ℕ) (place size : ℕ) → place + size ≤ length octets
    → take size (drop place (octets ++ more)) ≡ take size (drop place octets)
stays octets more place size there =
    let front : drop place (octets ++ more) ≡ drop place octets ++ more =
    drop-append-le place octets more (omega (arith, there)) in
    rw front
    (take-append-le size (drop place octets) more (omega (arith, there, length-drop place octets)))

all_stay : (octets more : List ℕ) (slots : List Slot) → AreThere (length octets) slots
    → packets_at (octets ++ more) slots ≡ packets_at octets slots
all_stay octets more [] there = refl
all_stay octets more (slot ∷ rest) there =
    let first = stays octets more slot.place slot.length
    (All-head (IsThere (length octets)) slot rest there).enough in
    let others = all_stay octets more rest (All-tail (IsThere (length octets)) slot rest there) in
    rw (first, others) refl

-- one more packet, whose octets stand at a place of what is stored
pub one_more : (octets packet : List ℕ) (slots : List Slot) (port : Port) (place size : ℕ)
    → take size (drop place octets) ≡ packet
    → packets_at octets (slots ++ (record { port = port; place = place; length = size }) ∷ [])
    ≡ packets_at octets slots ++ (record { port = port; octets = packet }) ∷ []
one_more octets packet slots port place size is =
    map-append (packet_at octets) slots _
    ∙ ap (λ (o : List ℕ). packets_at octets slots ++ (record { port = port; octets = o }) ∷ []) is

-- one more packet, whose octets are stored behind the others
pub stored_after : (octets packet : List ℕ) (slots : List Slot) (port : Port) (size : ℕ)
    → size ≡ length packet → AreThere (length octets) slots
    → packets_at (octets ++ packet)
    (slots ++ (record { port = port; place = length octets; length = size }) ∷ [])
    ≡ packets_at octets slots ++ (record { port = port; octets = packet }) ∷ []
stored_after octets packet slots port size is there =
    let whole : take size (drop (length octets) (octets ++ packet)) ≡ packet =
    rw (drop-append_seam octets packet, is) (take_all (length packet) packet (omega arith)) in
    one_more (octets ++ packet) packet slots port (length octets) size whole
    ∙ ap (λ (front : List Sent). front ++ (record { port = port; octets = packet }) ∷ [])
    (all_stay octets packet slots there)

-- the slots are there where there is more, with one more that is
pub are_there : (count more : ℕ) (slots : List Slot) (slot : Slot) → count ≤ more
    → AreThere count slots → IsThere more slot
    → AreThere more (slots ++ slot ∷ [])
are_there count more slots slot longer there is =
    All-push (IsThere more) slots slot
    (All-weaker (IsThere count) (IsThere more) (λ s fits.
    record { enough = omega (arith, fits.enough, longer); fits = fits.fits }) slots there) is

-- a packet that was found has the size of its slot
pub found_at : (octets packet found : List ℕ) (place size : ℕ) → place + size ≤ length octets
    → found ≡ take size (drop place octets) → found ≡ packet
    → take (length packet) (drop place octets) ≡ packet
found_at octets packet found place size there is same =
    let whole : take size (drop place octets) ≡ packet = sym is ∙ same in
    let count : length packet ≡ size = sym (ap length whole)
    ∙ length-take-le size (drop place octets) (omega (arith, there, length-drop place octets)) in
    rw count whole

-- ---- the last slot to a port

or_either : (b c : Bool) (first slot : Slot) (later : Option Slot)
    → or_slot b first (if c then Some slot else later)
    ≡ (if c then Some slot else or_slot b first later)
or_either b true first slot later = refl
or_either b false first slot later = refl

last_of : (port : Port) (front : List Slot) (slot : Slot)
    → last_slot port (front ++ slot ∷ [])
    ≡ (if same_port slot.port port then Some slot else last_slot port front)
unfolding last_slot
last_of port [] slot = refl
last_of port (first ∷ rest) slot =
    ap (or_slot (same_port first.port port) first) (last_of port rest slot)
    ∙ or_either (same_port first.port port) (same_port slot.port port) first slot
    (last_slot port rest)

-- looked for from the end: a slot to another port is passed over, and one to the port is the last
pub passes_over : (port : Port) (slots : List Slot) (n : ℕ) (d : Slot) → n < length slots
    → same_port (get_or slots n d).port port ≡ false
    → last_slot port (take (n + 1) slots) ≡ last_slot port (take n slots)
passes_over port slots n d below other =
    ap (last_slot port) (take_more slots n d below)
    ∙ (last_of port (take n slots) (get_or slots n d) ∙ rw other refl)

pub stops_at : (port : Port) (slots : List Slot) (n : ℕ) (d : Slot) → n < length slots
    → same_port (get_or slots n d).port port ≡ true
    → last_slot port (take (n + 1) slots) ≡ Some (get_or slots n d)
stops_at port slots n d below same =
    ap (last_slot port) (take_more slots n d below)
    ∙ (last_of port (take n slots) (get_or slots n d) ∙ rw same refl)

pub none_left : (port : Port) (slots : List Slot) (n : ℕ) → length slots ≤ n
    → last_slot port (take (length slots - n) slots) ≡ None
unfolding last_slot
none_left port slots n past = ap (λ (k : ℕ). last_slot port (take k slots))
    (let none : length slots - n ≡ 0 = omega (arith, past) in none)

-- it is one of them, so it is there
either_there : (count : ℕ) (b : Bool) (first : Slot) (found : Option Slot) (slot : Slot)
    → IsThere count first
    → ((later : Slot) → found ≡ Some later → IsThere count later)
    → or_slot b first found ≡ Some slot → IsThere count slot
either_there count b first (Some found) slot here later is = later slot is
either_there count true first None slot here later is =
    subst (IsThere count) (let same : first ≡ slot = cc in same) here
either_there count false first None slot here later is = cc

pub last_there : (count : ℕ) (port : Port) (slots : List Slot) (slot : Slot) → AreThere count slots
    → last_slot port slots ≡ Some slot → IsThere count slot
unfolding last_slot
last_there count port [] slot there is = cc
last_there count port (first ∷ rest) slot there is =
    either_there count (same_port first.port port) first (last_slot port rest) slot
    (All-head (IsThere count) first rest there)
    (λ later e. last_there count port rest later (All-tail (IsThere count) first rest there) e) is

-- its octets are those of the last packet
or_octets : (octets : List ℕ) (b : Bool) (slot : Slot) (found : Option Slot)
    → or_last b (packet_at octets slot).octets
    (option_map (λ (s : Slot). (packet_at octets s).octets) found)
    ≡ option_map (λ (s : Slot). (packet_at octets s).octets) (or_slot b slot found)
or_octets octets b slot (Some found) = refl
or_octets octets true slot None = refl
or_octets octets false slot None = refl

last_octets : (octets : List ℕ) (port : Port) (slots : List Slot)
    → last_to port (packets_at octets slots)
    ≡ option_map (λ (s : Slot). (packet_at octets s).octets) (last_slot port slots)
unfolding last_to last_slot
last_octets octets port [] = refl
last_octets octets port (slot ∷ rest) =
    ap (or_last (same_port slot.port port) (packet_at octets slot).octets)
    (last_octets octets port rest)
    ∙ or_octets octets (same_port slot.port port) slot (last_slot port rest)

pub last_is : (octets packet : List ℕ) (port : Port) (slots : List Slot) (slot : Slot)
    → last_slot port slots ≡ Some slot
    → last_to port (packets_at octets slots) ≡ Some packet → (packet_at octets slot).octets ≡ packet
last_is octets packet port slots slot is last =
    let both : Some (packet_at octets slot).octets ≡ Some packet =
    ap (option_map (λ (s : Slot). (packet_at octets s).octets)) (sym is)
    ∙ (sym (last_octets octets port slots) ∙ last) in
    cc

pub none_last : (octets packet : List ℕ) (port : Port) (slots : List Slot)
    → last_slot port slots ≡ None
    → last_to port (packets_at octets slots) ≡ Some packet → ⊥
none_last octets packet port slots is last =
    let none : None ≡ Some packet =
    ap (option_map (λ (s : Slot). (packet_at octets s).octets)) (sym is)
    ∙ (sym (last_octets octets port slots) ∙ last) in
    cc
