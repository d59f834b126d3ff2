-- The covered octets stand behind the header and the OP-Code, and their MAC behind them.
use Rattle.std.proofs.Common.{◌≡◌, ◌∙◌, ◌-◌, ◌+◌, ◌≤◌, ◌++◌, ◌∷◌, [], List, ℕ, length, drop, take}
use Rattle.std.proofs.Common.{ap, sym, length-drop, arith}
use Rattle.std.proofs.Math.Seq.{take-length}
use Rattle.octet_lists.specs.Suite.{ks_of}
use Rattle.eap_packet.specs.Packet.{value_with}
use Rattle.eap_packet.specs.Packet as packets
use Rattle.gpsk_messages.specs.Message.{message_of, mac_of, size_of, covered_of}
use Rattle.gpsk_messages.specs.Message as messages
use Rattle.gpsk_messages.specs.Reading.{with_mac}
use Rattle.login_keys.specs.Gpsk.{gpsk_tag_of}
use Rattle.eap_method.specs.declared.tags.Label.TheVariants.{Sk}
use Rattle.eap_method.specs.declared.tags.TagRecord.{TagRecord}
use Rattle.gpsk_ends.specs.Keys.{SuiteKeys}
use Rattle.gpsk_ends.proofs.MacLaws.{packet_sealed, record_sealed, size_with}
use Rattle.gpsk_ends.proofs.Capacities.{message_has_capacity}
use Rattle.gpsk_ends.proofs.keys.Keys.seal.Given as over
use Rattle.gpsk_ends.proofs.keys.Keys.seal.Goals as goal

abbrev one_record : List ℕ → List ℕ → List ℕ → TagRecord
one_record psk octets tag =
    record { method = 51; label = Sk; psk = psk; octets = octets; tag = tag }

-- what is left behind the first octets
all_left : (count : ℕ) (octets : List ℕ) → take (length octets - count) (drop count octets)
    ≡ drop count octets
all_left count octets = ap (λ n. take n (drop count octets)) (sym (length-drop count octets))
    ∙ take-length (drop count octets)

is_covered : (g : over.Over) (c : goal.After-append g) → (let l = c.as_slice.result.now in
    take (length l - 6) (drop 6 l) ≡ covered_of (message_of c.args.view.now))
is_covered g c = all_left 6 c.as_slice.result.now
    ∙ ap (λ (l : List ℕ). drop 6 l) c.as_slice.ensures.same ∙ c.write_front.ensures.covered

is_tag : (g : over.Over) (c : goal.After-append g) → (let l = c.as_slice.result.now in
    c.tag_whole-tag.result
    ≡ gpsk_tag_of c.self.inside.suite c.self.inside.keys.sk (take (length l - 6) (drop 6 l)))
is_tag g c = c.tag_whole-tag.ensures.tag c.self.inside.suite c.self.inside.keys.sk c.self.invariant

is_packet : (g : over.Over) (c : goal.After-append g) → c.append.new.self
    ≡ packets.spelled (value_with c.args.code c.args.id 51
    (messages.spelled (with_mac (message_of c.args.view.now) c.tag_whole-tag.result)))
is_packet g c =
    let tag = c.tag_whole-tag.result in
    let whole : length tag ≡ ks_of c.self.inside.suite =
    c.tag_whole-tag.ensures.size c.self.inside.suite c.self.inside.keys.sk c.self.invariant in
    let size : length c.as_slice-3.result.now ≡ length tag = ap length c.as_slice-3.ensures.same in
    let within : length c.write_front.new.packet + length c.as_slice-3.result.now ≤ 1500 =
    omega (arith, c.write_front.ensures.capacity) in
    c.append.ensures.appended within
    ∙ ap (λ (l : List ℕ). c.write_front.new.packet ++ l) c.as_slice-3.ensures.same
    ∙ c.write_front.ensures.sealed tag whole

has_mac : (g : over.Over) (c : goal.After-append g) → length (mac_of (message_of c.args.view.now))
    ≡ ks_of c.self.inside.suite
has_mac g c = c.requires.mac ∙ ap (λ (k : SuiteKeys). ks_of k.suite) (sym c.self.view_is)

pub returns-clause-packet : goal.returns-clause-packet
returns-clause-packet g c =
    let l = c.as_slice.result.now in
    rw (← c.self.view_is)
    (packet_sealed c.args.code c.args.id c.self.inside.suite c.self.inside.keys.sk
    (message_of c.args.view.now) (take (length l - 6) (drop 6 l))
    c.tag_whole-tag.result c.append.new.self (is_covered g c) (is_tag g c) (is_packet g c))

pub returns-clause-record : goal.returns-clause-record
returns-clause-record g c =
    let l = c.as_slice.result.now in
    let octets = take (length l - 6) (drop 6 l) in
    let suite = c.self.inside.suite in
    let mac = has_mac g c in
    rw (← c.self.view_is)
    (c.set_alone.ensures
    ∙ ap (λ (t : List ℕ). one_record c.args.psk.now octets t ∷ []) c.as_slice-2.ensures.same
    ∙ ap (λ r. r ∷ [])
    (record_sealed suite c.self.inside.keys.sk c.args.psk.now (message_of c.args.view.now)
    octets c.tag_whole-tag.result mac (is_covered g c) (is_tag g c)))

pub returns-clause-capacity : goal.returns-clause-capacity
returns-clause-capacity g c =
    let tag = c.tag_whole-tag.result in
    let suite = c.self.inside.suite in
    let whole : length tag ≡ ks_of suite =
    c.tag_whole-tag.ensures.size suite c.self.inside.keys.sk c.self.invariant in
    let message = message_of c.args.view.now in
    let size : size_of (with_mac message tag) ≡ size_of message =
    size_with suite message tag (has_mac g c) whole in
    message_has_capacity c.args.code c.args.id (with_mac message tag)
    c.append.new.self c.requires.typed (omega (arith, size, c.requires.bounded)) (is_packet g c)
