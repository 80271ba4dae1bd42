use Rattle.std.proofs.Common.{◌≡◌, ◌*◌, ◌%◌, ◌^◌, ◌≤◌, cond, ◌++◌, length, drop, sym, ap, ◌∙◌, subst, append_assoc, arith, length-drop}
use lib.ListN.{length-map}
use Rattle.bits.specs.Packing.{Narrow, room, packed, unpacked}
use Rattle.numlist.specs.Parts.{lows, marked, marks, parts, entries, directory}
use Rattle.numlist.specs.Cuts.{marks_at, directory_at, below_at}
use Rattle.numlist.specs.CutSections.{sections_long}
use Rattle.numlist.specs.Highs.{narrow_marks, narrow_parts}
use Rattle.numlist.proofs.CutPuts.{filled_part, marks_back, all_put}
use Rattle.numlist.proofs.cut.CutNumberList.put.Goals as goal

pub returns-then-out-places : goal.returns-then-out-places
returns-then-out-places g c narrow within =
    let b = c.args.self.now.width.bits in
    let L = g.L.NumberList.meaning c.args.self.now.below in
    let ys = c.args.numbers.now in
    let long = sections_long b (length ys) (lows b ys) (marks b ys) (L.string (parts b ys)) (length-map ys (λ x. x % 2 ^ b)) (length-map ys (λ x. cond (marked b x) 1 0)) in
    let at = c.new-places.ensures.its_below ∙ ap (below_at b) c.count-count.ensures in
    absurd (omega (arith, long, at, within, c.if-out-places.true))

-- each part of the bytes has just the room for its section, and the list below gets the rest
pub returns : goal.returns
returns g c narrow within =
    let b = c.args.self.now.width.bits in
    let L = g.L.NumberList.meaning c.args.self.now.below in
    let ys = c.args.numbers.now in
    let m = length ys in
    let ls = lows b ys in
    let ms = marks b ys in
    let string = L.string (parts b ys) in
    let out = c.args.out.now in
    let count-ls : length ls ≡ m = length-map ys (λ x. x % 2 ^ b) in
    let count-ms : length ms ≡ m = length-map ys (λ x. cond (marked b x) 1 0) in
    let counted = c.count-count.ensures in
    let at-marks : c.new-places.result.marks ≡ marks_at b m = c.new-places.ensures.its_marks ∙ ap (marks_at b) counted in
    let at-directory : c.new-places.result.directory ≡ directory_at b m = c.new-places.ensures.its_directory ∙ ap (directory_at b) counted in
    let at-below : c.new-places.result.below ≡ below_at b m = c.new-places.ensures.its_below ∙ ap (below_at b) counted in
    let long = sections_long b m ls ms string count-ls count-ms in
    let low_parts : c.put_lows.new.out ≡ packed b ls =
    filled_part (packed b ls) c.split_at_mut-lows.result.0.now (room b m) (c.split_at_mut-lows.ensures.front_len ∙ at-marks) c.put_lows.ensures
    in
    let its_marks : c.put_marks.new.out ≡ packed 1 ms =
    filled_part (packed 1 ms) c.split_at_mut-marks.result.0.now (room 1 m) (omega (arith, c.split_at_mut-marks.ensures.front_len, at-marks, at-directory)) c.put_marks.ensures
    in
    let entry_room : length c.split_at_mut-marks.result.1.now ≡ 4 * entries c.count-count.result.numbers =
    omega (arith, counted, c.split_at_mut-own.ensures.front_len, c.split_at_mut-lows.ensures.back_len, c.split_at_mut-marks.ensures.back_len, at-marks, at-directory, at-below)
    in
    let its_directory : c.put_directory.new.out ≡ packed 32 (directory ms) =
    filled_part (packed 32 (directory (unpacked 1 c.count-count.result.numbers c.put_marks.new.out))) c.split_at_mut-marks.result.1.now (4 * entries c.count-count.result.numbers) entry_room c.put_directory.ensures
    ∙ (λ i. packed 32 (directory (unpacked 1 (counted i) (its_marks i))))
    ∙ ap (λ l. packed 32 (directory l)) (marks_back m ms count-ms (narrow_marks b ys))
    in
    let behind : c.split_at_mut-own.result.1.now ≡ drop (below_at b m) out = c.split_at_mut-own.ensures.back ∙ ap (λ n. drop n out) at-below in
    let fits : length string ≤ length (drop (below_at b m) out) = omega (arith, long, within, length-drop (below_at b m) out) in
    let left = c.split_at_mut-own.result.1.now in
    let put : length string ≤ length left → c.put.new.out ≡ string ++ drop (length string) left =
    subst (λ l. Narrow L.reach l → length (L.string l) ≤ length left → c.put.new.out ≡ L.string l ++ drop (length (L.string l)) left)
    c.higher.ensures c.put.ensures (narrow_parts b L.reach ys narrow)
    in
    let rest : c.put.new.out ≡ string ++ drop (length string) (drop (below_at b m) out) =
    subst (λ l. length string ≤ length l → c.put.new.out ≡ string ++ drop (length string) l) behind put fits
    in
    (λ i. (low_parts i ++ (its_marks i ++ its_directory i)) ++ rest i)
    ∙ ap (λ l. l ++ (string ++ drop (length string) (drop (below_at b m) out))) (sym (append_assoc (packed b ls) (packed 1 ms) (packed 32 (directory ms))))
    ∙ all_put b m ls ms count-ls count-ms string out
