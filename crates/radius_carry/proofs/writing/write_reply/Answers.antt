-- The reply is sealed with the Request Authenticator, and then has its own.
use Rattle.std.proofs.Common.{◌∙◌, List, [], refl}
use Rattle.radius_carry.specs.Packet.{Attribute}
use Rattle.radius_carry.specs.Tags.{asked_text}
use Rattle.radius_carry.specs.Written.{attributes_before_tag, sealed_packet, packet_with_tag}
use Rattle.radius_carry.proofs.writing.write_reply.Goals as goal

pub returns : goal.returns
unfolding sealed_packet packet_with_tag asked_text
returns c =
    let list : List Attribute = attributes_before_tag [] c.args.state.now c.args.eap.now in
    let octets = c.carried_octets-attributes.ensures.octets in
    let tag = c.tag_over-tag.ensures list (c.as_slice.ensures.same ∙ octets) in
    let asked = c.framed-asked.ensures list (c.as_slice-2.ensures.same ∙ octets) in
    c.framed.ensures list (c.as_slice-4.ensures.same ∙ octets)
    ∙ rw (
      c.response_over-response.ensures,
      c.as_slice-3.ensures.same,
      asked,
      tag,
      c.code_of-code.ensures,
    ) refl
