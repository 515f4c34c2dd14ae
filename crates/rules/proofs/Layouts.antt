-- Messages laid out and read.
use Rattle.std.proofs.Common.{◌≡◌, ℕ, suc, ◌+◌, ◌-◌, ◌^◌, ◌<◌, ◌≤◌, List, ◌∷◌, ◌++◌, length, get_or, take, drop, Fits, w8, sym, refl, ap, ◌∙◌, arith}
use Rattle.std.proofs.ByRecursion.{All-take, All-drop, All-from_get_or}
use Rattle.std.proofs.lemmas.List.{append_assoc, take-append-drop, take_all, take_at, take_rest, drop_at, drop_more, drop-drop, drop-take, take-take, length-take-le, length-drop, length-append}
use Rattle.octets.specs.Numbers.{Octets, octets_of, number}
use Rattle.octets.proofs.Widths.{length_octets, octets_number, stand_for_each_other}
use Rattle.rules.specs.declared.message.IvFields.{IvFields}
use Rattle.rules.specs.declared.message.SecurityHeader.{SecurityHeader}
use Rattle.rules.specs.Layout.{part, open_header, iv_part, sealed_header, open_message, sealed_message, header_in, fields_in, sealed_payload, tag_in, HeaderFits, FieldsFit, OpenUndone, SealedUndone, ReadingUndoesLayingOut}

-- PARTS

-- what the type of a message says of each octet
pub octets_known : (xs : List ℕ) → ((i : ℕ) → Fits w8 (get_or xs i 0)) → Octets xs
octets_known xs fits = All-from_get_or (λ x. x < 256) xs 0 (λ i _. omega (arith, fits i))

-- the octet at a place, and then the rest of the part
part_more : (xs : List ℕ) (place width : ℕ) → place < length xs → part place (suc width) xs ≡ get_or xs place 0 ∷ part (place + 1) width xs
part_more xs place width h = ap (take (suc width)) (drop_more xs place 0 h)

-- two parts that lie side by side are one
part_joins : (xs : List ℕ) (place a b : ℕ) → part place (a + b) xs ≡ part place a xs ++ part (place + a) b xs
part_joins xs place a b =
    let ys = drop place xs in
    let front : take a (take (a + b) ys) ≡ take a ys = take-take a (a + b) ys (omega arith) in
    let back : drop a (take (a + b) ys) ≡ take b (drop a ys) = drop-take a b ys in
    let whole = take-append-drop a (take (a + b) ys) in
    let far : drop a ys ≡ drop (place + a) xs = drop-drop a place xs in
    cc

length_part : (xs : List ℕ) (place width : ℕ) → place + width ≤ length xs → length (part place width xs) ≡ width
length_part xs place width h = length-take-le width (drop place xs) (simp length-drop (omega arith))

-- a part is the octets of its number
octets_part : (xs : List ℕ) (place width : ℕ) → Octets xs → place + width ≤ length xs → octets_of width (number (part place width xs)) ≡ part place width xs
octets_part xs place width o h =
    ap (λ w. octets_of w (number (part place width xs))) (sym (length_part xs place width h))
    ∙ octets_number (part place width xs) (All-take (λ x. x < 256) width (drop place xs) (All-drop (λ x. x < 256) place xs o))

-- a sealed message is what the tag is over, and the four octets of the tag
pub covered_before_tag : (xs : List ℕ) → 24 ≤ length xs → part 0 20 xs ++ sealed_payload xs ≡ take (length xs - 4) xs
covered_before_tag xs h = sym (part_joins xs 0 20 (length xs - 24)) ∙ ap (λ n. take n xs) (omega arith)

pub tag_octets : (xs : List ℕ) → Octets xs → 4 ≤ length xs → octets_of 4 (tag_in xs) ≡ drop (length xs - 4) xs
tag_octets xs o h = octets_part xs (length xs - 4) 4 o (omega arith) ∙ take_all 4 (drop (length xs - 4) xs) (simp length-drop (omega arith))

-- LAYING OUT WHAT WAS READ

header_laid : (xs : List ℕ) → Octets xs → 6 ≤ length xs → open_header (header_in xs) ≡ part 0 6 xs
unfolding open_header
header_laid xs o h =
    let spi = octets_part xs 0 4 o (omega arith) in
    let kind = part_more xs 4 1 (omega arith) in
    let code = part_more xs 5 0 (omega arith) in
    let whole = part_joins xs 0 4 2 in
    cc

iv_laid : (xs : List ℕ) → Octets xs → 20 ≤ length xs → iv_part (fields_in xs) ≡ part 6 14 xs
unfolding iv_part
iv_laid xs o h =
    let tvp = octets_part xs 6 4 o (omega arith) in
    let ne = octets_part xs 10 6 o (omega arith) in
    let prop = octets_part xs 16 4 o (omega arith) in
    let front = part_joins xs 6 4 10 in
    let back = part_joins xs 10 6 4 in
    cc

pub open_laid : (xs : List ℕ) → Octets xs → 6 ≤ length xs → xs ≡ open_message (header_in xs) (part 6 (length xs - 6) xs)
open_laid xs o h =
    let header = header_laid xs o h in
    let rest = take_rest xs 6 in
    let whole = take-append-drop 6 xs in
    cc

pub sealed_laid : (xs : List ℕ) → Octets xs → 24 ≤ length xs → xs ≡ sealed_message (header_in xs) (fields_in xs) (part 20 (length xs - 24) xs) (tag_in xs)
sealed_laid xs o h =
    let n = length xs in
    let header = header_laid xs o (omega arith) in
    let iv = iv_laid xs o (omega arith) in
    let front = part_joins xs 0 6 14 in
    let tag = octets_part xs (n - 4) 4 o (omega arith) in
    let place : 20 + (n - 24) ≡ n - 4 = omega arith in
    let back : part 20 (n - 20) xs ≡ part 20 (n - 24) xs ++ part (n - 4) 4 xs =
    ap (λ k. part 20 k xs) (omega arith) ∙ part_joins xs 20 (n - 24) 4 ∙ ap (λ k. part 20 (n - 24) xs ++ part k 4 xs) place in
    let rest = take_rest xs 20 in
    let whole = take-append-drop 20 xs in
    cc

-- LENGTHS

pub length_open_header : (h : SecurityHeader) → length (open_header h) ≡ 6
unfolding open_header octets_of
length_open_header h = refl

pub length_sealed_header : (h : SecurityHeader) (f : IvFields) → length (sealed_header h f) ≡ 20
unfolding open_header iv_part octets_of
length_sealed_header h f = refl

-- READING WHAT WAS LAID OUT

back : (w n : ℕ) → n < 256 ^ w → number (octets_of w n) ≡ n
back = stand_for_each_other.back

module _ (h : SecurityHeader) (fits : HeaderFits h) where
  -- the header of anything that begins with it
  header_back : (rest : List ℕ) → header_in (open_header h ++ rest) ≡ h
  unfolding open_header octets_of
  header_back rest = ap (λ n. record { spi = n; component = h.component }) (back 4 h.spi fits.spi)

  open_long : (payload : List ℕ) → length (open_message h payload) ≡ 6 + length payload
  open_long payload = length-append (open_header h) payload ∙ ap (λ n. n + length payload) (length_open_header h)

  open_undone : (payload : List ℕ) → OpenUndone h payload
  unfolding open_header octets_of
  open_undone payload = record { header = header_back payload; payload_is = refl; long = open_long payload }

  module _ (f : IvFields) (fields_fit : FieldsFit f) where
    fields_back : (rest : List ℕ) → fields_in (sealed_header h f ++ rest) ≡ f
    unfolding open_header iv_part octets_of
    fields_back rest =
        ap (λ n. record { tvp = n; ne_id = number (octets_of 6 f.ne_id); prop = number (octets_of 4 f.prop) }) (back 4 f.tvp fields_fit.tvp)
        ∙ ap (λ n. record { tvp = f.tvp; ne_id = n; prop = number (octets_of 4 f.prop) }) (back 6 f.ne_id fields_fit.ne_id)
        ∙ ap (λ n. record { tvp = f.tvp; ne_id = f.ne_id; prop = n }) (back 4 f.prop fields_fit.prop)

    module _ (payload : List ℕ) (tag : ℕ) (tag-Fits : tag < 2 ^ 32) where
      abbrev xs : List ℕ
      xs = sealed_message h f payload tag

      abbrev covered_octets : List ℕ
      covered_octets = sealed_header h f ++ payload

      grouped : xs ≡ covered_octets ++ octets_of 4 tag
      grouped = sym (append_assoc (sealed_header h f) payload (octets_of 4 tag))

      length_covered : length covered_octets ≡ 20 + length payload
      length_covered = length-append (sealed_header h f) payload ∙ ap (λ n. n + length payload) (length_sealed_header h f)

      long : length xs ≡ 24 + length payload
      long =
          ap length grouped ∙ length-append covered_octets (octets_of 4 tag)
          ∙ ap (λ n. length covered_octets + n) (length_octets 4 tag) ∙ omega (arith, length_covered)

      sealed_undone : SealedUndone h f payload tag
      sealed_undone =
          let end : length xs - 4 ≡ length covered_octets = omega (arith, long, length_covered) in
          let size : length xs - 24 ≡ length payload = omega (arith, long) in
          record {
            header = ap header_in (append_assoc (open_header h) (iv_part f) (payload ++ octets_of 4 tag)) ∙ header_back (iv_part f ++ (payload ++ octets_of 4 tag));
            fields = fields_back (payload ++ octets_of 4 tag);
            payload_is = ap (λ n. take n (drop 20 xs)) size ∙ ap (take (length payload)) (drop_at (sealed_header h f) (payload ++ octets_of 4 tag) 20 (length_sealed_header h f)) ∙ take_at payload (octets_of 4 tag) (length payload) refl;
            tag_is = ap (λ n. number (part n 4 xs)) end ∙ ap (λ ys. number (part (length covered_octets) 4 ys)) grouped ∙ ap (λ ys. number (take 4 ys)) (drop_at covered_octets (octets_of 4 tag) (length covered_octets) refl) ∙ ap number (take_all 4 (octets_of 4 tag) (omega (arith, length_octets 4 tag))) ∙ back 4 tag tag-Fits;
            covered = ap (λ n. take n xs) end ∙ ap (take (length covered_octets)) grouped ∙ take_at covered_octets (octets_of 4 tag) (length covered_octets) refl;
            long = long;
          }

pub undone : ReadingUndoesLayingOut
undone = (λ h payload fits. open_undone h fits payload, λ h f payload tag fits fields_fit tag-Fits. sealed_undone h fits f fields_fit payload tag tag-Fits)
