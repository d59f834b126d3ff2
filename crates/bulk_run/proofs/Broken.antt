-- Where both ends of a conversation succeed and don't agree, an end has accepted a tag that the
-- other hadn't made.
use Rattle.std.proofs.Common.{◌≡◌, ◌≤◌, ℕ, zero, suc, ◌+◌, ◌*◌, List, length, refl, arith, rules}
use Rattle.std.proofs.Common.{inl}
use Rattle.std.proofs.lemmas.List.Elements.{All-nil}
use Rattle.world_laws.specs.Whole.{IsWhole}
use Rattle.login_laws.specs.Agreement.{AgreesWhereHonest}
use Rattle.tag_book.specs.Book.{tags_verdict}
use Rattle.eap_world.specs.Judgement.{verdict_of}
use Rattle.eap_world.specs.World.{WorldNow, one_if}
use Rattle.tag_book.specs.declared.book.TagsVerdict.{TagsVerdict}
use Rattle.tag_book.specs.declared.book.TagsVerdict.TheVariants as tags
use Rattle.eap_world.specs.declared.verdict.Verdict.{Verdict}
use Rattle.eap_world.specs.declared.verdict.Verdict.TheVariants as verdict
use Rattle.world_laws.proofs.StartsOnce.{starts_once}
use Rattle.login_laws.proofs.HonestRuns.{honest_ends_agree}
use Rattle.bulk_run.specs.Conversation.{setup_at, setup_with}
use Rattle.bulk_run.specs.Summing.{BrokenWhereApart, CountsWell, counts_of, drawn_each, ended_at}
use Rattle.bulk_run.specs.Summing.{events_of}
use Rattle.bulk_run.specs.Summing.{is_agree, is_unfinished, is_apart, is_broken, plus, summary_of}
use Rattle.bulk_run.specs.declared.summary.Summary.{Summary}
use Rattle.bulk_run.proofs.Drawing.{are_so_many}

-- the settings of a conversation are whole
whole_with : (peer_nonce server_nonce key : List ℕ)
    → length peer_nonce ≡ 32 → length server_nonce ≡ 32 → length key ≡ 32
    → IsWhole (setup_with peer_nonce server_nonce key)
whole_with peer_nonce server_nonce key p s k = record {
  peer = search rules;
  keys = refl;
  server = search rules;
  peer_kinds = refl;
  server_kinds = refl;
  peer_nonce = p;
  server_nonce = s;
  peer_later = All-nil (λ (nonce : List ℕ). length nonce ≡ 32);
  server_later = All-nil (λ (nonce : List ℕ). length nonce ≡ 32);
}

whole_at : (number place : ℕ) → IsWhole (setup_at number place)
unfolding setup_at
whole_at number place =
    whole_with _ _ _ (are_so_many number place 32) (are_so_many number (place + 32) 32)
    (are_so_many number (place + 64) 32)

-- a conversation has one verdict
one_verdict : (v : Verdict)
    → one_if (is_agree v) + (one_if (is_unfinished v) + one_if (is_apart v)) ≡ 1
one_verdict verdict.Agree = refl
one_verdict verdict.Apart = refl
one_verdict verdict.Unfinished = refl

at_most_broken : (v : Verdict) (t : TagsVerdict) → (t ≡ tags.Honest → v ≡ verdict.Apart → ⊥)
    → one_if (is_apart v) ≤ one_if (is_broken t)
at_most_broken verdict.Agree t never = omega arith
at_most_broken verdict.Unfinished t never = omega arith
at_most_broken verdict.Apart tags.Honest never = absurd (never refl refl)
at_most_broken verdict.Apart (tags.Broken event) never = omega arith

counts_well : (w : WorldNow) → length w.conversations.begun ≡ 2 → AgreesWhereHonest w
    → CountsWell (counts_of w)
unfolding counts_of
counts_well w once agrees = record {
  all = one_verdict (verdict_of w);
  apart_is_broken = at_most_broken (verdict_of w) (tags_verdict w.book)
      (λ honest apart. agrees.never_apart honest (inl once) apart);
}

each_well : (number place : ℕ) → CountsWell (counts_of (ended_at number place))
unfolding ended_at setup_at
each_well number place =
    counts_well _ (starts_once (setup_at number place)
    (events_of (setup_at number place) number (place + 96)) refl refl)
    (honest_ends_agree (setup_at number place)
    (events_of (setup_at number place) number (place + 96)) (whole_at number place))

both_well : (one other : Summary) → CountsWell one → CountsWell other → CountsWell (plus one other)
both_well one other well also = record {
  all = let a = well.all in let b = also.all in omega (arith, a, b);
  apart_is_broken =
      let a = well.apart_is_broken in let b = also.apart_is_broken in omega (arith, a, b);
}

sum_well : (number count : ℕ) → CountsWell (summary_of number count)
unfolding summary_of
sum_well number zero = record { all = refl; apart_is_broken = omega arith }
sum_well number (suc k) =
    both_well (summary_of number k) _ (sum_well number k) (each_well number (k * drawn_each number))

one_conversation : (w : WorldNow) → (counts_of w).conversations ≡ 1
unfolding counts_of
one_conversation w = refl

all_counted : (number count : ℕ) → (summary_of number count).conversations ≡ count
unfolding summary_of
all_counted number zero = refl
all_counted number (suc k) =
    let before = all_counted number k in
    let one = one_conversation (ended_at number (k * drawn_each number)) in
    omega (arith, before, one)

pub broken_where_apart : BrokenWhereApart
broken_where_apart = record { each = each_well; sum = sum_well; count = all_counted }
