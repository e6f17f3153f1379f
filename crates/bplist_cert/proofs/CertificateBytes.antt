-- Laws of the bytes of certificates.
use Rattle.std.proofs.Common.{◌≡◌, inl, inr, Bool, true, false, is_some, ℕ, suc, ◌+◌, ◌*◌, ◌^◌, ◌<◌, ◌≤◌, min, List, [], ◌∷◌, ◌++◌, length, get_or, take, drop, Option, Some, None, IfSome, refl, sym, ap, ap₂, ◌∙◌, subst, arith, lit≤, append_assoc, ◌-◌, ◌/◌, ◌%◌}
use Rattle.std.specs.Int.{bytes_high_first}
use Rattle.std.proofs.Math.Seq.{take-add}
use Rattle.std.proofs.lemmas.Bool.{cases_lt}
use Rattle.std.proofs.lemmas.List.{append_cancel_left, length-append, length-drop, length-take, length-take-le, take-append-drop, take_all, take-take, drop-take, drop-drop, take_at, drop_at, take_rest}
use Rattle.std.proofs.lemmas.List.Concat.{flat_map-append}
use Rattle.bplist_octets.specs.Octets.{part, num}
use Rattle.bplist_objects.specs.Answers.{GivesFault, Never}
use Rattle.bplist_objects.specs.declared.fault.ObjectFault.{ObjectFault}
use Rattle.bplist_objects.specs.declared.fault.ObjectFault.TheVariants as errors
use Rattle.bplist_cert.specs.Refusals.{GivesRefusal, refusal_of}
use Rattle.bplist_cert.specs.Lists.{Keyed, Lists, lists, AreWords, HasStarts, HasCount, IsCertificate}
use Rattle.bplist_cert.specs.Encoding.{magic, words, key_words, octets_of, Fits, IsOctetsFault}
use Rattle.bplist_objects.specs.declared.fault.Fault.{Fault}
use Rattle.bplist_objects.specs.declared.rule.Rule.TheVariants as rules
use Rattle.bplist_cert.proofs.NumberBytes.{num-bytes, length-bytes, length-words}

-- equal lists with fronts of the same length have equal fronts and equal rests
parts_same : (p q x y : List ℕ) → length p ≡ length q → p ++ x ≡ q ++ y → (p ≡ q) × (x ≡ y)
parts_same p q x y l e =
    let front : p ≡ q = sym (take_at p x (length q) l) ∙ ap (take (length q)) e ∙ take_at q y (length q) refl in
    let rest : x ≡ y = sym (drop_at p x (length q) l) ∙ ap (drop (length q)) e ∙ drop_at q y (length q) refl in
    (front, rest)

-- numbers have one spelling
words_once : (xs ys : List ℕ) → AreWords xs → AreWords ys → words xs ≡ words ys → xs ≡ ys
words_once [] [] p q e = refl
words_once (x ∷ xs) (y ∷ ys) p q e =
    let s = parts_same (bytes_high_first 4 x) (bytes_high_first 4 y) (words xs) (words ys) (length-bytes 4 x ∙ sym (length-bytes 4 y)) e in
    let first : x ≡ y = sym (num-bytes 4 x (p 0)) ∙ ap num s.0 ∙ num-bytes 4 y (q 0) in
    let rest = words_once xs ys (λ k. p (suc k)) (λ k. q (suc k)) s.1 in
    cc
words_once xs ys p q e = absurd (omega (arith, ap length e, length-words xs, length-words ys))

-- the bytes after the magic
abbrev behind : Lists → List ℕ
behind lists = bytes_high_first 8 (length lists.heights) ++ (words lists.heights ++ key_words lists.keys)

heights_once : (a b : Lists) → IsCertificate a → IsCertificate b → behind a ≡ behind b → (a.heights ≡ b.heights) × (key_words a.keys ≡ key_words b.keys)
heights_once a b p q e =
    let s = parts_same (bytes_high_first 8 (length a.heights)) (bytes_high_first 8 (length b.heights)) (words a.heights ++ key_words a.keys) (words b.heights ++ key_words b.keys)
    (length-bytes 8 (length a.heights) ∙ sym (length-bytes 8 (length b.heights))) e in
    let count : length a.heights ≡ length b.heights = sym (num-bytes 8 (length a.heights) p.count) ∙ ap num s.0 ∙ num-bytes 8 (length b.heights) q.count in
    let t = parts_same (words a.heights) (words b.heights) (key_words a.keys) (key_words b.keys) (length-words a.heights ∙ ap (λ n. 4 * n) count ∙ sym (length-words b.heights)) s.1 in
    (words_once a.heights b.heights p.heights q.heights t.0, t.1)

keyed_once : (a b : Keyed) → length a.starts ≡ length b.starts → AreWords a.starts × AreWords a.positions → AreWords b.starts × AreWords b.positions → key_words (Some a) ≡ key_words (Some b) → a ≡ b
keyed_once a b l p q e =
    let t = parts_same (words a.starts) (words b.starts) (words a.positions) (words b.positions) (length-words a.starts ∙ ap (λ n. 4 * n) l ∙ sym (length-words b.starts)) e in
    let s = words_once a.starts b.starts p.0 q.0 t.0 in
    let r = words_once a.positions b.positions p.1 q.1 t.1 in
    ap (λ x. record { starts = x; positions = a.positions }) s ∙ ap (λ x. record { starts = b.starts; positions = x }) r

once : (h i : List ℕ) (j k : Option Keyed) → IsCertificate (lists h j) → IsCertificate (lists i k) → octets_of (lists h j) ≡ octets_of (lists i k) → lists h j ≡ lists i k
once h i None None p q e =
    let r = heights_once (lists h None) (lists i None) p q (append_cancel_left (magic false) (behind (lists h None)) (behind (lists i None)) e) in
    ap (λ x. lists x None) r.0
once h i (Some j) (Some k) p q e =
    let r = heights_once (lists h (Some j)) (lists i (Some k)) p q (append_cancel_left (magic true) (behind (lists h (Some j))) (behind (lists i (Some k))) e) in
    let l : length j.starts ≡ length k.starts = p.starts ∙ ap length r.0 ∙ sym q.starts in
    ap (λ x. lists x (Some j)) r.0 ∙ ap (λ x. lists i (Some x)) (keyed_once j k l p.keys q.keys r.1)
once _ _ _ _ p q e = absurd (omega (arith, ap (λ xs. get_or xs 7 0) e))

-- a certificate has one spelling
pub octets_once : (a b : Lists) → IsCertificate a → IsCertificate b → octets_of a ≡ octets_of b → a ≡ b
octets_once a b = once a.heights b.heights a.keys b.keys

starts_fit : (heights : List ℕ) (keys : Option Keyed) (count : ℕ) → length heights ≡ count → HasCount keys count → HasStarts heights keys
starts_fit heights None count n h = tt
starts_fit heights (Some k) count n h = h ∙ sym n

-- the bytes before a place, the n bytes from there on, and the rest
drop-part : (xs : List ℕ) (place n : ℕ) → drop place xs ≡ part xs place n ++ drop (place + n) xs
drop-part xs place n = sym (take-append-drop n (drop place xs)) ∙ ap (λ ys. part xs place n ++ ys) (drop-drop n place xs)

-- as many of the first 16 bytes as there are
pub front_is : (f room : List ℕ) (n : ℕ) → length room ≡ 16 → n ≡ min (length f) 16 → part f 0 (length (take n room)) ≡ take 16 f
front_is f room n r e =
    let len = length-take-le n room (omega arith) in
    elim (cases_lt (length f) 16) [
      | inl lt ↦ take_all (length (take n room)) f (omega (arith, len)) ∙ sym (take_all 16 f (omega arith))
      | inr ge ↦ let all : length (take n room) ≡ 16 = omega (arith, len) in ap (λ k. take k f) all
    ]

-- the first 16 bytes, by the magic and the number of heights in them
pub header_is : (f front magic : List ℕ) (count : ℕ) → front ≡ take 16 f → take 8 front ≡ magic
    → part front 8 8 ≡ bytes_high_first 8 count → take 16 f ≡ magic ++ bytes_high_first 8 count
header_is f front magic count e m bytes =
    let all : length front ≤ 16 = omega (arith, ap length e, length-take 16 f) in
    let rest : part front 8 8 ≡ drop 8 front = take_all 8 (drop 8 front) (omega (arith, length-drop 8 front)) in
    sym e ∙ sym (take-append-drop 8 front) ∙ ap (λ ys. ys ++ drop 8 front) m
    ∙ ap (λ ys. magic ++ ys) (sym rest ∙ bytes)

-- a magic, but a number of bytes that does not fit the number of heights
pub length_refused : (f front : List ℕ) (keyed : Bool) (count len : ℕ) → front ≡ take 16 f → len ≡ length f → take 8 front ≡ magic keyed
    → part front 8 8 ≡ bytes_high_first 8 count → count < 2 ^ 64 → (Fits keyed count len → ⊥) → IsOctetsFault f (record { rule = rules.CertLength; object = None; place = len })
length_refused f front keyed count len e l m bytes low never =
    let short : take 8 front ≡ take 8 f = ap (take 8) e ∙ take-take 8 16 f (lit≤ tt) in
    let inner : part front 8 8 ≡ part f 8 8 = ap (λ xs. part xs 8 8) e ∙ ap (take 8) (drop-take 8 8 f) ∙ take-take 8 8 (drop 8 f) (lit≤ tt) in
    let told : count ≡ num (part f 8 8) = sym (num-bytes 8 count low) ∙ ap num (sym bytes ∙ inner) in
    let none = λ (fits : Fits keyed (num (part f 8 8)) (length f)).
    never (subst (λ k. Fits keyed k len) (sym told) (subst (Fits keyed (num (part f 8 8))) (sym l) fits)) in
    inr (keyed, sym short ∙ m, none, ap (λ place. record { rule = rules.CertLength; object = None; place = place }) l)

-- the numbers after those so far
pub words_grown : (f xs ys : List ℕ) (place : ℕ) → part f place (4 * length xs) ≡ words xs
    → part f (place + 4 * length xs) (4 * length ys) ≡ words ys → part f place (4 * length (xs ++ ys)) ≡ words (xs ++ ys)
words_grown f xs ys place before here =
    let four : 4 * length (xs ++ ys) ≡ 4 * length xs + 4 * length ys = omega (arith, length-append xs ys) in
    ap (part f place) four ∙ take-add (4 * length xs) (4 * length ys) (drop place f)
    ∙ ap (λ rest. part f place (4 * length xs) ++ take (4 * length ys) rest) (drop-drop (4 * length xs) place f)
    ∙ ap₂ (λ front rest. front ++ rest) before here ∙ sym (flat_map-append (bytes_high_first 4) xs ys)

-- starts and positions are all bytes from the starts on
pub keyed_words : (f starts positions : List ℕ) (place count : ℕ) → place + 4 * count ≤ length f → (length f - (place + 4 * count)) % 4 ≡ 0
    → part f place (4 * count) ≡ words starts → part f (place + 4 * count) (4 * ((length f - (place + 4 * count)) / 4)) ≡ words positions
    → drop place f ≡ words starts ++ words positions
keyed_words f starts positions place count fits whole s p =
    let behind = place + 4 * count in
    let all : 4 * ((length f - behind) / 4) ≡ length f - behind = omega arith in
    drop-part f place (4 * count) ∙ ap (λ ys. ys ++ drop behind f) s
    ∙ ap (λ ys. words starts ++ ys) (sym (take_rest f behind) ∙ ap (part f behind) (sym all) ∙ p)

-- the parts of a certificate are its bytes
pub whole : (f heights : List ℕ) (keys : Option Keyed) (count : ℕ) → take 16 f ≡ magic (is_some keys) ++ bytes_high_first 8 count
    → length heights ≡ count → count < 2 ^ 64 → AreWords heights → IfSome keys (λ keyed. AreWords keyed.starts × AreWords keyed.positions) → HasCount keys count
    → part f 16 (4 * count) ≡ words heights → drop (16 + 4 * count) f ≡ key_words keys
    → IsCertificate (lists heights keys) × (f ≡ octets_of (lists heights keys))
whole f heights keys count front n most p q starts w v =
    let rest : drop 16 f ≡ words heights ++ key_words keys =
    drop-part f 16 (4 * count) ∙ ap (λ ys. ys ++ drop (16 + 4 * count) f) w ∙ ap (λ ys. words heights ++ ys) v in (
      record { count = omega (arith, n, most); heights = p; keys = q; starts = starts_fit heights keys count n starts },
      sym (take-append-drop 16 f) ∙ ap (λ ys. ys ++ drop 16 f) front
          ∙ append_assoc (magic (is_some keys)) (bytes_high_first 8 count) (drop 16 f)
          ∙ ap (λ m. magic (is_some keys) ++ (bytes_high_first 8 m ++ drop 16 f)) (sym n)
          ∙ ap (λ ys. magic (is_some keys) ++ (bytes_high_first 8 (length heights) ++ ys)) rest,
    )

-- the number that a certificate's bytes tell is that of its heights
height_count_is : (h : List ℕ) (j : Option Keyed) → IsCertificate (lists h j) → num (part (octets_of (lists h j)) 8 8) ≡ length h
height_count_is h None p = ap num (take_at (bytes_high_first 8 (length h)) (words h ++ []) 8 (length-bytes 8 (length h))) ∙ num-bytes 8 (length h) p.count
height_count_is h (Some k) p = ap num (take_at (bytes_high_first 8 (length h)) (words h ++ key_words (Some k)) 8 (length-bytes 8 (length h))) ∙ num-bytes 8 (length h) p.count

length_behind : (h : List ℕ) (j : Option Keyed) → length (behind (lists h j)) ≡ 8 + 4 * length h + length (key_words j)
length_behind h j =
    let all = length-append (bytes_high_first 8 (length h)) (words h ++ key_words j) in
    omega (arith, all, length-append (words h) (key_words j), length-bytes 8 (length h), length-words h)

length_of : (h : List ℕ) (j : Option Keyed) → IsCertificate (lists h j) → Fits (is_some j) (num (part (octets_of (lists h j)) 8 8)) (length (octets_of (lists h j)))
length_of h None p = omega (arith, height_count_is h None p, length_behind h None)
length_of h (Some k) p =
    let l = length_behind h (Some k) in
    let a = length-append (words k.starts) (words k.positions) in
    let b = length-words k.starts in
    let c = length-words k.positions in
    let s = p.starts in
    (omega (arith, height_count_is h (Some k) p, l, a, b, c, s), omega (arith, l, a, b, c, s))

magic_of : (h : List ℕ) (j : Option Keyed) → take 8 (octets_of (lists h j)) ≡ magic (is_some j)
magic_of h None = refl
magic_of h (Some k) = refl

one_magic : (x y : Bool) → magic x ≡ magic y → x ≡ y
one_magic false false e = refl
one_magic true true e = refl
one_magic _ _ e = absurd (omega (arith, ap (λ xs. get_or xs 7 0) e))

-- the bytes of a certificate keep rules 24 and 25
pub octets_kept : (octets : List ℕ) (c : Lists) (a : Fault) → IsCertificate c → octets ≡ octets_of c → IsOctetsFault octets a → ⊥
octets_kept octets c a p e (inl h) = h.0 (is_some c.keys) (ap (take 8) e ∙ magic_of c.heights c.keys)
octets_kept octets c a p e (inr (keyed, is, never, _)) =
    let fits = subst (λ xs. Fits (is_some c.keys) (num (part xs 8 8)) (length xs)) (sym e) (length_of c.heights c.keys p) in
    let same : is_some c.keys ≡ keyed = one_magic (is_some c.keys) keyed (sym (magic_of c.heights c.keys) ∙ sym (ap (take 8) e) ∙ is) in
    never (subst (λ k. Fits k (num (part octets 8 8)) (length octets)) same fits)

-- a header that is refused is not that of a certificate
pub header_refused : (f : List ℕ) (c : Lists) (e : ObjectFault) → IsCertificate c → f ≡ octets_of c → GivesFault (IsOctetsFault f) e
    → GivesRefusal Never (refusal_of e)
header_refused f c (errors.Fault fault) p e h = octets_kept f c fault p e h
header_refused f c (errors.Read _) p e h = tt
