-- Rows of several parts together: their sums are equal where those of each part are.
use Rattle.std.proofs.Common.{◌≡◌, ◌+◌, true, List, [], ◌∷◌, get_or, map, refl, sym, ◌∙◌, arith}
use Rattle.std.proofs.Common.{if◌then◌else◌}
use Rattle.std.specs.List.{AllByRecursion}
use Rattle.std.proofs.lemmas.List.Elements.{All-append}
use Rattle.std.proofs.lemmas.List.Sums.{sum_by-append}
use Rattle.event_costs.specs.Costs.{IsWhole}
use Rattle.arc_costs.specs.Arcs.{is_some_arc}
use Rattle.arc_costs.specs.Contents.{Listed}
use Rattle.arc_costs.specs.Lines.{is_some_line}
use Rattle.event_costs.specs.Order.{same_arc, same_place}
use Rattle.arc_costs.specs.Rows.{ArcRow, LineRow}
use Rattle.reads_back.specs.Joined.{WrittenPart, no_rows, rows_of_all, together}
use Rattle.addr_rows.specs.Plain.{plain}
use Rattle.report_laws.specs.Sums.{AreCounted, HaveEqualSums}
use Rattle.report_laws.proofs.AddrOwnPartLemmas.{AddrPart}

-- the rows without their addresses, in place of those of the part
abbrev pub as_plain : AddrPart → WrittenPart
as_plain p = record { head = p.part.head; rows = plain p.rows }

pub none_counted : AreCounted no_rows
none_counted = record {
  lines = λ k d lt. absurd (omega arith);
  arcs = λ k d lt. absurd (omega arith);
  whole = record { lines = λ k d lt. absurd (omega arith); arcs = λ k d lt. absurd (omega arith) };
}

pub both_counted : (rows more : Listed) → AreCounted rows → AreCounted more → AreCounted (together rows more)
both_counted rows more one other = record {
  lines = All-append (λ (row : LineRow). is_some_line row ≡ true) rows.lines more.lines one.lines other.lines;
  arcs = All-append (λ (row : ArcRow). is_some_arc row ≡ true) rows.arcs more.arcs one.arcs other.arcs;
  whole = record {
    lines = All-append (λ (row : LineRow). IsWhole row.cost) rows.lines more.lines one.whole.lines other.whole.lines;
    arcs = All-append (λ (row : ArcRow). IsWhole row.cost) rows.arcs more.arcs one.whole.arcs other.whole.arcs;
  };
}

both_equal : (rows more others after : Listed) → HaveEqualSums rows others → HaveEqualSums more after
    → HaveEqualSums (together rows more) (together others after)
both_equal rows more others after one other = record {
  lines = λ kind place.
      let number = λ (row : LineRow). if same_place place row.place then get_or row.cost kind 0 else 0 in
      sum_by-append number rows.lines more.lines ∙ (λ i. one.lines kind place i + other.lines kind place i)
      ∙ sym (sum_by-append number others.lines after.lines);
  arcs = record {
    calls = λ arc.
        let number = λ (row : ArcRow). if same_arc arc row.arc then row.calls else 0 in
        sum_by-append number rows.arcs more.arcs ∙ (λ i. one.arcs.calls arc i + other.arcs.calls arc i)
        ∙ sym (sum_by-append number others.arcs after.arcs);
    costs = λ kind arc.
        let number = λ (row : ArcRow). if same_arc arc row.arc then get_or row.cost kind 0 else 0 in
        sum_by-append number rows.arcs more.arcs ∙ (λ i. one.arcs.costs kind arc i + other.arcs.costs kind arc i)
        ∙ sym (sum_by-append number others.arcs after.arcs);
  };
  counted = both_counted rows more one.counted other.counted;
  others_counted = both_counted others after one.others_counted other.others_counted;
}

abbrev pub HasEqualSums : AddrPart → Type 0
HasEqualSums p = HaveEqualSums p.part.rows (plain p.rows)

pub all_equal : (parts : List AddrPart) → AllByRecursion HasEqualSums parts
    → HaveEqualSums (rows_of_all (map (λ (p : AddrPart). p.part) parts)) (rows_of_all (map as_plain parts))
all_equal [] all = record {
  lines = λ kind place. refl;
  arcs = record { calls = λ arc. refl; costs = λ kind arc. refl };
  counted = none_counted;
  others_counted = none_counted;
}
all_equal (p ∷ parts) all =
    both_equal p.part.rows (rows_of_all (map (λ (q : AddrPart). q.part) parts)) (plain p.rows)
    (rows_of_all (map as_plain parts)) all.0 (all_equal parts all.1)
