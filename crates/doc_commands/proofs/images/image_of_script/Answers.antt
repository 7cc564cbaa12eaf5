use Rattle.doc_commands.proofs.images.image_of_script.Goals as goal

pub returns : goal.returns
returns g c = record {
  records = c.in_ok-lived.lived.records;
  are = record { lives = c.in_ok-lived.ensures.legal; witness = c.in_ok-lived.ensures.witness };
  image = c.in_ok-lived.lived.image;
  base = c.in_ok-lived.lived.base;
  left = c.in_ok-lived.ensures.image_is;
  goes_on = c.in_ok-lived.ensures.base_is;
  ends = c.in_ok-lived.ensures.ends;
  text_is = c.in_ok-text.ensures;
}
