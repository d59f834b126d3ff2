-- The key stream a block longer, and the counter mode back.
use Rattle.std.proofs.Common.{◌≡◌, ℕ, zero, suc, ◌+◌, ◌*◌, ◌-◌, ◌≤◌, List, [], ◌∷◌, ◌++◌, length}
use Rattle.std.proofs.Common.{take, drop, min, refl, sym, ap, ◌∙◌, arith, add-one, add-zero}
use Rattle.std.proofs.Common.{length-append, length-drop}
use Rattle.std.specs.List.{flat_map, range_with_len}
use Rattle.std.specs.Int.{div_ceil}
use Rattle.std.proofs.lemmas.List.{append-nil}
use Rattle.std.proofs.lemmas.List.Concat.{flat_map-append}
use Rattle.eax_mode.specs.Eax.{combined, counter_mode, key_stream, stream_block}
use Rattle.eax_mode.proofs.Combining.{combined_append, combined_nil, combined_take, combined_twice}
use Rattle.eax_mode.proofs.Combining.{length_combined}

range_push : (a n : ℕ) → range_with_len a (suc n) ≡ range_with_len a n ++ (a + n) ∷ []
range_push a zero = ap (λ k. k ∷ []) (sym (add-zero a))
range_push a (suc n) =
    let e : a + 1 + n ≡ a + suc n = omega arith in
    ap (λ l. a ∷ l) (range_push (a + 1) n) ∙ ap (λ k. a ∷ range_with_len (a + 1) n ++ k ∷ []) e

-- no block
pub key_stream_zero : (key : List ℕ) (start : ℕ) → key_stream key start 0 ≡ []
unfolding key_stream
key_stream_zero key start = refl

-- one block more
pub key_stream_more : (key : List ℕ) (start n : ℕ)
    → key_stream key start (n + 1) ≡ key_stream key start n ++ stream_block key start n
unfolding key_stream
key_stream_more key start n =
    let grown : range_with_len 0 (n + 1) ≡ range_with_len 0 n ++ n ∷ [] =
    ap (range_with_len 0) (add-one n) ∙ range_push 0 n
    ∙ ap (λ k. range_with_len 0 n ++ k ∷ []) (omega arith) in
    ap (flat_map (stream_block key start)) grown
    ∙ flat_map-append (stream_block key start) (range_with_len 0 n) (n ∷ [])
    ∙ ap (λ l. key_stream key start n ++ l) (append-nil (stream_block key start n))

-- the text so far: the first n blocks of the stream, of sixteen octets each, are combined with it
pub record IsCombinedFor (key : List ℕ) (start n : ℕ) (before now : List ℕ) : Type 0 where
  pub same : now ≡ combined before (key_stream key start n)
  pub whole : length (key_stream key start n) ≡ 16 * n

-- before the first block
pub combined_none : (key : List ℕ) (start : ℕ) (text : List ℕ) → IsCombinedFor key start 0 text text
combined_none key start text = record {
  same = sym (ap (combined text) (key_stream_zero key start) ∙ combined_nil text);
  whole = ap length (key_stream_zero key start);
}

-- one block on: the part from 16 * n on, of at most sixteen octets, is combined with the block
pub combined_block : (key : List ℕ) (start n size : ℕ) (before now block part : List ℕ)
    → IsCombinedFor key start n before now
    → block ≡ stream_block key start n → length block ≡ 16
    → min 16 (length now - 16 * n) ≤ size
    → part ≡ combined (take size (drop (16 * n) now)) block
    → IsCombinedFor key start (n + 1) before
    (take (16 * n) now ++ (part ++ drop size (drop (16 * n) now)))
combined_block key start n size before now block part so_far is_block whole room is_part =
    let stream : List ℕ = key_stream key start n in
    let rest : List ℕ = drop (16 * n) now in
    let rest_len : length rest ≡ length now - 16 * n = length-drop (16 * n) now in
    let reach : min (length block) (length rest) ≤ size = omega arith in
    let joined : part ++ drop size rest ≡ combined rest block =
    ap (λ l. l ++ drop size rest) is_part ∙ combined_take rest block size reach in
    let grown : key_stream key start (n + 1) ≡ stream ++ block =
    key_stream_more key start n ∙ ap (λ l. stream ++ l) (sym is_block) in
    record {
      same = ap (λ l. take (16 * n) now ++ l) joined
          ∙ ap (λ l. take (16 * n) l ++ combined (drop (16 * n) l) block) so_far.same
          ∙ ap (λ m. take m (combined before stream) ++ combined (drop m
          (combined before stream)) block) (sym so_far.whole)
          ∙ combined_append before stream block
          ∙ ap (combined before) (sym grown);
      whole =
          let sum : length (key_stream key start (n + 1)) ≡ length stream + length block =
          ap length grown ∙ length-append stream block in
          omega arith;
    }

-- to apply the key stream twice changes nothing
pub counter_mode_twice : (key : List ℕ) (start : ℕ) (text : List ℕ)
    → counter_mode key start (counter_mode key start text) ≡ text
unfolding counter_mode
counter_mode_twice key start text =
    let stream : ℕ → List ℕ = λ n. key_stream key start (div_ceil n 16) in
    ap (λ n. combined (combined text (stream (length text))) (stream n))
    (length_combined text (stream (length text)))
    ∙ combined_twice text (stream (length text))
