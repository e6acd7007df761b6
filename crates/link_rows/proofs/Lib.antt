mod Valid
